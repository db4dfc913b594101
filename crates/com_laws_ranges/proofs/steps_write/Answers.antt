use Rattle.com_laws_ranges.proofs.Writing.{steps-write}
use Rattle.com_laws_ranges.proofs.steps_write.Goals as goal

pub returns : goal.returns
returns c = steps-write
