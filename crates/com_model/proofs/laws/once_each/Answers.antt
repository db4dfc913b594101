use Rattle.com_model.proofs.Onces.{legal-once}
use Rattle.com_model.proofs.laws.once_each.Goals as goal

pub returns : goal.returns
returns c = legal-once
