-- The schedule by the tables of a core: the entries that follow from a state, and the state after them.
use Rattle.std.specs.Prelude.{◌≡◌, ℕ, zero, suc, List, [], ◌∷◌, ◌++◌, Option, Some, None}
use Rattle.com_model.specs.declared.counts.Ended.{Ended}
use Rattle.com_model.specs.declared.deeds.Deed.{Deed}
use Rattle.com_model.specs.declared.deeds.Entry.{Entry}
use Rattle.com_model.specs.declared.scenario.Scenario.{Scenario}
use Rattle.com_model.specs.Ends.{Turn, turn, ended_by, last_after}
use Rattle.com_model.specs.State.{State, StandsFor, sight_of, next_of, after}

abbrev pub ended_in : Scenario → State → Option Ended
ended_in s st = ended_by s (sight_of s st) st.entries

abbrev pub turn_in : Scenario → State → (picks : List ℕ) → (last : ℕ) → Option Turn
turn_in s st picks last = turn s (sight_of s st) picks last

-- What is left to run: the entries, the newest first, and the state after the last of them.
pub record Run : Type 0 where
  pub entries : List Entry
  pub state : State

abbrev pub over : State → Run
over st = record { entries = []; state = st }

abbrev pub behind : Entry → Run → Run
behind e r = record { entries = r.entries ++ e ∷ []; state = r.state }

abbrev pub after_deed : Scenario → (State → List ℕ → ℕ → Run) → State → (last : ℕ) → Turn → Option Deed → Run
after_deed s go st last t None = over st
after_deed s go st last t (Some d) =
    behind (record { lane = t.lane; deed = d }) (go (after s st t.lane d) t.picks (last_after t.lane last))

abbrev pub after_turn : Scenario → (State → List ℕ → ℕ → Run) → State → (last : ℕ) → Option Turn → Run
after_turn s go st last None = over st
after_turn s go st last (Some t) = after_deed s go st last t (next_of s st t.lane)

abbrev pub unless_over :
    Scenario → (State → List ℕ → ℕ → Run) → State → List ℕ → (last : ℕ) → Option Ended → Run
unless_over s go st picks last (Some x) = over st
unless_over s go st picks last None = after_turn s go st last (turn_in s st picks last)

-- So many turns at most.
abbrev pub runs : ℕ → Scenario → State → List ℕ → ℕ → Run
runs zero s st picks last = over st
runs (suc n) s st picks last = unless_over s (runs n s) st picks last (ended_in s st)

-- The entries in front of a history that the state stands for are the history that the schedule makes, and
-- the state after them stands for it.
pub record RunsAs (s : Scenario) (h : List Entry) (scheduled : List Entry) (r : Run) : Type 0 where
  pub entries : scheduled ≡ r.entries ++ h
  pub stands : StandsFor s r.state scheduled
