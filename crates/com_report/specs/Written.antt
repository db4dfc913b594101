-- A text that grows behind what was there before.
use Rattle.std.specs.Prelude.{ℕ, List}

-- what was there before, and what was written since
pub record Written : Type 0 where
  pub front : List ℕ
  pub text : List ℕ
