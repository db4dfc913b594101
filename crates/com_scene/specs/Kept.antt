-- What holds of the tables of every scene.
use Rattle.std.specs.Prelude.{◌≡◌, ℕ, List, Option, Some, None, All, length, slice_index_or}
use Rattle.com_base.specs.declared.limits.TheConstants.{SLOT_COUNT}
use Rattle.com_body.specs.declared.frame.Outcome.{Outcome}
use Rattle.com_body.specs.Bodies.{IsDestination}
use Rattle.com_body.specs.Frames.{FrameView}
use Rattle.com_model.specs.Frames.{Actor as Acting, Script}
use Rattle.com_model.specs.State.{SceneTables}
use Rattle.com_scene.specs.Ranges.{WritesInRange}

-- A frame has all of its slots.
abbrev pub HasSlots : FrameView → Type 0
HasSlots f = length f.slots ≡ SLOT_COUNT

-- Each script has 8 slots, and the result of each call goes to a register or a slot that there is, or
-- nowhere.
pub record IsKept (t : SceneTables) : Type 0 where
  pub slots : All HasSlots t.scripts
  pub destinations : All IsDestination t.destinations

-- What whoever acts goes on to: a script to a frame of 8 slots, and each by an action whose numbers are in
-- range.
abbrev pub FitsActor : Acting → FrameView → Type 0
FitsActor (Script l) f = HasSlots f
FitsActor _ f = Unit {0}

-- Whoever acts makes a step of which this is the outcome: it fits the actor, and its writes are in range.
-- Of no outcome nothing is asked.
abbrev pub IsStep : Acting → Option Outcome → Type 0
IsStep a None = Unit {0}
IsStep a (Some r) = FitsActor a r.frame × WritesInRange r.action

-- The list has the apartment that names the owner of each object, from 0; where no STA ends it may be any.
abbrev pub NamesOwners : (named : ℕ → ℕ) → (ended : Option ℕ) → (owners : List ℕ) → Type 0
NamesOwners named None owners = Unit {0}
NamesOwners named (Some a) owners = (o : ℕ) → named o ≡ slice_index_or owners o 0
