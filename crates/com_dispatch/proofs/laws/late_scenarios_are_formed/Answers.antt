use Rattle.com_dispatch.proofs.LateForms.{formed}
use Rattle.com_dispatch.proofs.laws.late_scenarios_are_formed.Goals as goal

pub returns : goal.returns
returns c = formed
