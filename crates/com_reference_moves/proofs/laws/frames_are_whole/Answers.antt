use Rattle.com_reference_moves.proofs.Sized.{frames-whole, step-whole, few-values}
use Rattle.com_reference_moves.proofs.laws.frames_are_whole.Goals as goal

pub returns-clause-frames : goal.returns-clause-frames
returns-clause-frames c = frames-whole

pub returns-clause-step : goal.returns-clause-step
returns-clause-step c = step-whole

pub returns-clause-values : goal.returns-clause-values
returns-clause-values c = few-values
