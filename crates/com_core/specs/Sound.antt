-- What holds of a core between entries.
use Rattle.std.specs.Prelude.{ℕ, ◌≤◌, List, All, length}
use Rattle.com_base.specs.declared.limits.TheConstants.{ENTRY_2_LIMIT}
use Rattle.com_scene.specs.Kept.{HasSlots}
use Rattle.com_parts.specs.Tables.{PartTables}
use Rattle.com_ledger.specs.Most.{Most}

-- The frame of each body has 8 slots, and an object runs at most as many bodies as there were entries.
pub record Sound (parts : PartTables) (entered : List ℕ) : Type 0 where
  pub bodies : All HasSlots parts.scene.bodies
  pub runs : Most parts.entries entered

-- There were a million entries at most, and no more apartments were made than there were entries.
pub record Few (parts : PartTables) : Type 0 where
  pub entries : parts.entries ≤ ENTRY_2_LIMIT
  pub stas : length parts.lanes.stas ≤ parts.entries
