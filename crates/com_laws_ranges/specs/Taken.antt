-- The parts of a state take an entry.
use Rattle.std.specs.Prelude.{◌≡◌, ℕ}
use Rattle.com_calls.specs.Kept.{Kept}
use Rattle.com_model.specs.declared.deeds.Deed.{Deed}
use Rattle.com_model.specs.State.{State}
use Rattle.com_parts.specs.Fits.{Fits}
use Rattle.com_state.specs.Parts.{lanes_of, objects_of, calls_of}

-- Whatever rows and inboxes are kept beside the tables of calls.
abbrev pub IsTaken : State → (lane : ℕ) → Deed → Type 0
IsTaken st l d = (b : Kept) → b.tables ≡ calls_of st → Fits (lanes_of st) (objects_of st) b l d st.clock
