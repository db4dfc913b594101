-- A history as it is written, and the runtime that made it.
use Rattle.std.specs.Prelude.{◌≡◌, ℕ, ◌+◌, ◌≤◌, List, ◌++◌, length, reverse}
use Rattle.com_model.specs.declared.deeds.Entry.{Entry}
use Rattle.com_model.specs.declared.scenario.Scenario.{Scenario}
use Rattle.com_model.specs.Ends.{limit}
use Rattle.com_model.specs.Formed.{Formed}
use Rattle.com_model.specs.State.{State, StandsFor}
use Rattle.com_model.specs.Tables.{lanes}
use Rattle.com_turnstile.specs.Entries.{AreOf}

-- Entries are written in the order in which they are made. The rules speak of histories that have the newest
-- entry first.
abbrev pub newest_first : List Entry → List Entry
newest_first h = reverse h

-- Entries of the lane, or of the clock, were added.
abbrev pub Adds : (lane : ℕ) → (old new : List Entry) → Type 0
Adds l old new = (more : List Entry) × (new ≡ old ++ more) × AreOf (λ (e : Entry). e.lane) l more

-- What was written: the entries, and for how many lanes they are counted, lane 0 among them.
pub record Written : Type 0 where
  pub entries : List Entry
  pub rows : ℕ

-- A runtime of this scenario, in this state, has made the entries that were written, no more than there may
-- be, and can go on.
pub record UpToDate (s running : Scenario) (st : State) (w : Written) : Type 0 where
  pub formed : Formed s
  pub same : running ≡ s
  pub rows : w.rows ≡ lanes s + 1
  pub stands : StandsFor s st (newest_first w.entries)
  pub within : length w.entries ≤ limit s
