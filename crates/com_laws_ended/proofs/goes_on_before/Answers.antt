use Rattle.com_laws_ended.proofs.Going.{legal-goes-on}
use Rattle.com_laws_ended.proofs.goes_on_before.Goals as goal

pub returns : goal.returns
returns c = legal-goes-on
