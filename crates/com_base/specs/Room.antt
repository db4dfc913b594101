-- Bytes with room behind them.
use Rattle.std.specs.Prelude.{ℕ, List}

-- The bytes, and how many more are sure to find room.
pub record Room : Type 0 where
  pub items : List ℕ
  pub spare : ℕ
