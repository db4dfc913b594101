-- What a step of a course does.
use Rattle.std.specs.Prelude.{◌≡◌, ℕ, ◌++◌, ◌<◌, Bool, true, false, List, Option, Some, None, ◌⊎◌, drop}
use Rattle.com_io.specs.Told.{GainsPrefix}
use Rattle.com_model.specs.declared.counts.Ended.{Ended}
use Rattle.com_model.specs.declared.deeds.Entry.{Entry}
use Rattle.com_model.specs.declared.scenario.Scenario.{Scenario}
use Rattle.com_model.specs.Ends.{limit}
use Rattle.com_model.specs.State.{State}
use Rattle.com_replay.specs.declared.course.Course.{Course}
use Rattle.com_replay.specs.declared.course.Turned.{Turned}
use Rattle.com_replay.specs.declared.course.Turned.TheVariants.{Made, Over}
use Rattle.com_runtime.specs.Standings.{ended_now, none_can_in}
use Rattle.com_runtime.specs.Turns.{IsTurn, GoesOn, next_line, served_in}

-- A moment between two steps: the runtime's state, the picks that are left, the last lane, the lines that are
-- kept, the bytes that the sink holds, and the servants' counts.
pub record Moment : Type 0 where
  pub state : State
  pub picks : List ℕ
  pub last : ℕ
  pub lines : List ℕ
  pub held : Option (List ℕ)
  pub steps : List ℕ

-- A moment without what is written: the runtime's state, the picks that are left, the last lane, and the
-- servants' counts.
pub record Place : Type 0 where
  pub state : State
  pub picks : List ℕ
  pub last : ℕ
  pub steps : List ℕ

-- The moment of a course of a scenario, by the runtime's state, what the sink holds and the servants' counts.
abbrev pub moment_of : Scenario → State → Course → (held : Option (List ℕ)) → (steps : List ℕ) → Moment
moment_of s st course held steps =
    record {
      state = st;
      picks = drop course.tried s.picks;
      last = course.last;
      lines = course.lines;
      held = held;
      steps = steps;
    }

-- The same without what is written.
abbrev pub place_of : Scenario → State → Course → (steps : List ℕ) → Place
place_of s st course steps =
    record { state = st; picks = drop course.tried s.picks; last = course.last; steps = steps }

-- A turn was made, but for its line.
pub record IsTurned (s : Scenario) (p q : Place) (e : Entry) : Type 0 where
  pub turn : IsTurn s p.state p.picks p.last e q.state q.picks q.last
  pub steps : q.steps ≡ served_in s p.state e.lane p.steps

-- No lane has the turn, and nothing was done: there is no room for an entry, or no lane can step.
pub record HasNoTurn (s : Scenario) (p q : Place) : Type 0 where
  pub same : q ≡ p
  pub none : p.state.entries < limit s → none_can_in s p.state ≡ true

-- A lane made the turn, where one has it.
abbrev pub IsLaneTurn : Scenario → (before after : Place) → Entry → Bool → Type 0
IsLaneTurn s p q e true = IsTurned s p q e
IsLaneTurn s p q e false = HasNoTurn s p q

-- The history had ended, and nothing was done.
pub record HasEnded (s : Scenario) (p q : Place) (x : Ended) : Type 0 where
  pub ended : ended_now s p.state ≡ Some x
  pub same : q ≡ p

-- A turn was made, by a lane or by the clock, or the history had ended.
abbrev pub TurnsTo : Scenario → (before after : Place) → Entry → Turned → Type 0
TurnsTo s p q e Made = IsTurned s p q e
TurnsTo s p q e (Over x) = HasEnded s p q x

-- A turn was made, and its line was written or is kept behind what was kept.
pub record IsMade (s : Scenario) (m n : Moment) (e : Entry) : Type 0 where
  pub turn : IsTurn s m.state m.picks m.last e n.state n.picks n.last
  pub line : GoesOn m.held n.held m.lines n.lines (next_line s m.state e)
  pub steps : n.steps ≡ served_in s m.state e.lane m.steps

-- The history had ended, and nothing was done.
pub record IsOver (s : Scenario) (m n : Moment) (x : Ended) : Type 0 where
  pub ended : ended_now s m.state ≡ Some x
  pub same : n ≡ m

-- With the entry that the runtime lends afterwards.
abbrev pub StepsTo : Scenario → (before after : Moment) → Entry → Turned → Type 0
StepsTo s m n e Made = IsMade s m n e
StepsTo s m n e (Over x) = IsOver s m n x

abbrev pub over_of : Turned → Option Ended
over_of Made = None
over_of (Over x) = Some x

-- A turn was made, and its line was begun.
pub record Interrupted (s : Scenario) (m : Moment) (held : Option (List ℕ)) : Type 0 where
  pub entry : Entry
  pub state : State
  pub picks : List ℕ
  pub last : ℕ
  pub turn : IsTurn s m.state m.picks m.last entry state picks last
  pub prefix : GainsPrefix m.held held (m.lines ++ next_line s m.state entry)

-- Where a step failed: nothing was written, or what was kept and a turn's line were begun.
abbrev pub Fails : Scenario → Moment → Option (List ℕ) → Type 0
Fails s m held = (held ≡ m.held) ⊎ Interrupted s m held
