-- What a contract sees of the single-threaded apartments that threads make.
use Rattle.std.specs.Prelude.{ℕ, List}

-- For each lane those that it made, the oldest first; all of them, the oldest first; and those that ended, in
-- that order.
pub record StaTables : Type 0 where
  pub made : List (List ℕ)
  pub stas : List ℕ
  pub ended : List ℕ
