use Rattle.com_io.proofs.Passing.{told_error}
use Rattle.com_io.proofs.whole.read_all.Goals as goal

pub returns-in-Err-clause-told : goal.returns-in-Err-clause-told
returns-in-Err-clause-told g c = told_error _ _ _ _ (λ is. c.in-Err.ensures.too_long is _ c.pieces.invariant.lost)
