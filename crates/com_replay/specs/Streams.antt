-- Where a stream stands in the one history of a scenario's schedule, and what a step from there does.
use Rattle.std.specs.Prelude.{◌≡◌, ℕ, ◌+◌, ◌++◌, ◌∷◌, true, List, Option, Some, None, is_some, length, drop}
use Rattle.std.specs.Prelude.{◌⊎◌}
use Rattle.com_io.specs.Told.{Gains, GainsPrefix}
use Rattle.com_model.specs.declared.deeds.Entry.{Entry}
use Rattle.com_model.specs.declared.scenario.Scenario.{Scenario}
use Rattle.com_model.specs.Clock.{clock}
use Rattle.com_model.specs.Ends.{ended_as, limit, report, run_on}
use Rattle.com_model.specs.Formed.{Formed}
use Rattle.com_model.specs.State.{State, StandsFor}
use Rattle.com_model.specs.Text.{line_text}
use Rattle.com_replay.specs.declared.replayed.Replayed.{Replayed}
use Rattle.com_replay.specs.Replays.{whole_history}
use Rattle.com_runtime.specs.Turns.{served_at}

-- What a contract sees of a stream: its scenario, the state behind the entries so far, the picks that are left,
-- and the last lane but the clock's, or 0.
pub record Position : Type 0 where
  pub scenario : Scenario
  pub state : State
  pub picks : List ℕ
  pub last : ℕ

-- Where a stream of a scenario stands with this state and this last lane, once so many of the scenario's picks
-- were tried.
abbrev pub position : Scenario → State → (tried last : ℕ) → Position
position s st tried last = record { scenario = s; state = st; picks = drop tried s.picks; last = last }

-- A stream stands for a history: its state is that of the history, and from there the schedule comes to its one
-- history.
pub record StandsAt (p : Position) (h : List Entry) : Type 0 where
  pub stands : StandsFor p.scenario p.state h
  pub more : ℕ
  pub count : more + length h ≡ limit p.scenario
  pub way : run_on more p.scenario h p.picks p.last ≡ whole_history p.scenario

-- A stream stands for a history of a formed scenario.
pub record UnderWay (p : Position) : Type 0 where
  pub formed : Formed p.scenario
  pub history : List Entry
  pub stands : StandsAt p history

-- In the one history of the schedule, the entry comes next behind this history. The newest entry is in front.
pub record IsNextOf (s : Scenario) (h : List Entry) (e : Entry) : Type 0 where
  pub later : List Entry
  pub whole : whole_history s ≡ later ++ e ∷ h

-- The answer for a history that has ended: how, how many entries it has, and where its clock stands.
pub record IsEndOf (s : Scenario) (h : List Entry) (r : Replayed) : Type 0 where
  pub ends : ended_as s h ≡ Some r.ended
  pub length_is : r.entries ≡ length h
  pub clock_is : r.clock ≡ clock h

-- ---- one step

-- The history had not ended: its next entry was made, and its line was written.
pub record GoesFurther (s : Scenario) (q : Position) (h : List Entry) (e : Entry) (old new : Option (List ℕ))
    (steps served : List ℕ) : Type 0 where
  pub goes_on : ended_as s h ≡ None
  pub next : IsNextOf s h e
  pub stands : StandsAt q (e ∷ h)
  pub line : Gains old new (line_text s.version (length h + 1) e)
  pub serves : served ≡ served_at s h e.lane steps

-- The history had ended: its report was written, and no servant made a step.
pub record Concludes (s : Scenario) (h : List Entry) (r : Replayed) (old new : Option (List ℕ))
    (steps served : List ℕ) : Type 0 where
  pub end : IsEndOf s h r
  pub told : Gains old new (report s h)
  pub same : served ≡ steps

-- A step to a position, with the entry that was made last.
abbrev pub Advances : Scenario → (after : Position) → List Entry → Entry → (old new : Option (List ℕ))
    → (steps served : List ℕ) → Option Replayed → Type 0
Advances s q h e old new steps served None = GoesFurther s q h e old new steps served
Advances s q h e old new steps served (Some r) = Concludes s h r old new steps served

-- The line of the entry that comes next was begun.
pub record LineBegun (s : Scenario) (h : List Entry) (old new : Option (List ℕ)) : Type 0 where
  pub entry : Entry
  pub next : IsNextOf s h entry
  pub prefix : GainsPrefix old new (line_text s.version (length h + 1) entry)

-- The report of a history that has ended was begun.
pub record ReportBegun (s : Scenario) (h : List Entry) (old new : Option (List ℕ)) : Type 0 where
  pub over : is_some (ended_as s h) ≡ true
  pub prefix : GainsPrefix old new (report s h)

-- A step was broken off: nothing was written, or the line or the report was begun.
abbrev pub BrokenOff : Scenario → List Entry → (old new : Option (List ℕ)) → Type 0
BrokenOff s h old new = (new ≡ old) ⊎ (LineBegun s h old new ⊎ ReportBegun s h old new)
