-- What a contract sees of the objects: their tables, and how many rows have room.
use Rattle.std.specs.Prelude.{ℕ, ◌<◌, length}
use Rattle.com_model.specs.declared.deeds.Deed.{Deed}
use Rattle.com_model.specs.declared.deeds.Deed.TheVariants as deed
use Rattle.com_state.specs.Parts.{ObjectTables}

-- The tables, and for how many objects there is room: made ones, and released ones.
pub record ObjectRows : Type 0 where
  pub tables : ObjectTables
  pub made : ℕ
  pub gone : ℕ

-- The row that an entry brings has room.
abbrev pub HasRowFor : ObjectRows → Deed → Type 0
HasRowFor k (deed.Made object apartment class iface hr) = length k.tables.makings < k.made
HasRowFor k (deed.Final object) = length k.tables.finaled < k.gone
HasRowFor k _ = Unit {0}
