-- What contracts see of the counts of running bodies and of the list of the dying, with the room of each.
use Rattle.std.specs.Prelude.{ℕ, List}

-- How many bodies of each object run, by the objects' numbers; and for how many more objects there is room.
pub record BodyCounts : Type 0 where
  pub counts : List ℕ
  pub spare : ℕ

-- The numbers of the dying objects; and for how many more there is room.
pub record DyingList : Type 0 where
  pub objects : List ℕ
  pub spare : ℕ
