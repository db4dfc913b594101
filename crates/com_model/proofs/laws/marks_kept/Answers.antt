use Rattle.com_model.proofs.Marks.{legal-marks}
use Rattle.com_model.proofs.laws.marks_kept.Goals as goal

pub returns : goal.returns
returns c = legal-marks
