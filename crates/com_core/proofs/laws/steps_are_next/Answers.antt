use Rattle.com_core.proofs.Entries.{steps_stand}
use Rattle.com_core.proofs.laws.steps_are_next.Goals as goal

pub returns : goal.returns
returns c = steps_stand
