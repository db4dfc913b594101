use Rattle.com_base.proofs.laws.names_are_inverse.Goals as goal
use Rattle.com_base.proofs.Names.{names_inverse}

pub returns : goal.returns
returns c = names_inverse
