-- What the parts have where a change was begun.
use Rattle.std.specs.Prelude.{◌≡◌, ℕ, ◌<◌, length}
use Rattle.com_lanes.specs.Rooms.{HasSpace}
use Rattle.com_model.specs.declared.deeds.Deed.{Deed}
use Rattle.com_model.specs.Apartments.{ends_sta}
use Rattle.com_model.specs.Calls.{issues, object_of}
use Rattle.com_model.specs.Frames.{Actor as Acting}
use Rattle.com_objects.specs.Rooms.{HasRowFor}
use Rattle.com_scene.specs.Kept.{NamesOwners}
use Rattle.com_scene.specs.Prepared.{IsPrepared}
use Rattle.com_state.specs.Parts.{named_at}
use Rattle.com_parts.specs.declared.parts.TheConstants.{MOST_ENTRIES}
use Rattle.com_parts.specs.Fits.{Fits, HasPlace}
use Rattle.com_parts.specs.Tables.{PartTables}

-- The parts take the entry at this clock, all that it brings has room, and what it needs was taken.
pub record IsBegun (p : PartTables) (acting after : Acting) (l : ℕ) (d : Deed) (clock : ℕ) : Type 0 where
  pub fits : Fits p.lanes p.objects p.calls l d clock
  pub few : p.entries < MOST_ENTRIES
  pub homes : length p.calls.apartments ≡ length p.calls.tables.issues
  pub lanes : HasSpace p.rooms.lanes l d
  pub objects : HasRowFor p.rooms.objects d
  pub place : HasPlace d (named_at p.objects (object_of (issues l d))) p.calls
  pub scene : IsPrepared acting after d p.rooms.scene p.rooms.taken
  pub owners : NamesOwners (named_at p.objects) (ends_sta d) p.rooms.owners
