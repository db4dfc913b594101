use Rattle.com_laws_ranges.proofs.Shapes.{job-shape, reached-shape}
use Rattle.com_laws_ranges.proofs.frames.frames_have_shape.Goals as goal

pub returns-clause-bodies : goal.returns-clause-bodies
returns-clause-bodies c = reached-shape

pub returns-clause-jobs : goal.returns-clause-jobs
returns-clause-jobs c = job-shape
