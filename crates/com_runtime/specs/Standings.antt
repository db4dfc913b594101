-- How a state stands: which lanes can step, whether the clock goes on, how all has ended, and whose turn it
-- is.
use Rattle.std.specs.Prelude.{◌≡◌, ℕ, ◌≤◌, Bool, true, ◌==◌, ◌&&◌, nat_le, List, Option, Some, None}
use Rattle.std.specs.Prelude.{if◌then◌else◌}
use Rattle.com_model.specs.declared.counts.Ended.{Ended}
use Rattle.com_model.specs.declared.counts.Ended.TheVariants as ended
use Rattle.com_model.specs.declared.deeds.Entry.{Entry}
use Rattle.com_model.specs.declared.scenario.Scenario.{Scenario}
use Rattle.com_model.specs.Tables.{lanes}
use Rattle.com_model.specs.Rules.{can_step, no_lane_can}
use Rattle.com_model.specs.Ends.{Turn, finished_by, stuck_by, limit}
use Rattle.com_model.specs.Formed.{Formed}
use Rattle.com_model.specs.State.{State, StandsFor, sight_of}
use Rattle.com_runtime.specs.Schedule.{ended_in, turn_in}
use Rattle.com_runtime.specs.declared.runtime.Standing.{Standing}
use Rattle.com_runtime.specs.declared.runtime.Standing.TheVariants as standing

-- Whether the rules of lanes give a lane an entry in a state. The clock's entry is not asked for here.
unfoldable pub can_step_in : Scenario → State → ℕ → Bool
can_step_in s st l = can_step s (sight_of s st) l

-- A number of the picks is tried only where it is a lane's.
unfoldable pub can_pick_in : Scenario → State → ℕ → Bool
can_pick_in s st l = (nat_le 1 l && nat_le l (lanes s)) && can_step_in s st l

-- Finished, stuck, at a Tick where no lane can step, or else running. The limit of entries is not asked for here.
unfoldable pub standing_of : Scenario → State → Standing
standing_of s st =
    if finished_by s (sight_of s st) then standing.Finished
    else if stuck_by s (sight_of s st) then standing.Stuck
    else if no_lane_can s (sight_of s st) then standing.Ticks
    else standing.Runs

-- How the history that a state stands for has ended; None where it goes on.
unfoldable pub ended_now : Scenario → State → Option Ended
ended_now s st = ended_in s st

-- Whose turn it is in a state, with the picks that are then left: of the first pick that can step, else in the round
-- behind the last lane. Where no lane can step it is the clock's, if a Tick is due.
unfoldable pub turn_now : Scenario → State → (picks : List ℕ) → (last : ℕ) → Option Turn
turn_now s st picks last = turn_in s st picks last

-- The end of a history that is neither finished nor stuck, if it has ended.
abbrev pub budget_of : Scenario → State → Option Ended
budget_of s st = if st.entries == limit s then Some ended.Budget else None

-- A lane that can step.
abbrev pub CanGo : Scenario → State → ℕ → Type 0
CanGo s st l = (1 ≤ l) × (l ≤ lanes s) × (can_step_in s st l ≡ true)

-- Whether no lane can step in a state; the clock is not asked.
unfoldable pub none_can_in : Scenario → State → Bool
none_can_in s st = no_lane_can s (sight_of s st)

unfoldable pub finished_in : Scenario → State → Bool
finished_in s st = finished_by s (sight_of s st)

-- Where all has ended no lane can step. It is so of each state that stands for a history of a formed
-- scenario.
abbrev pub Rests : Scenario → State → Type 0
Rests s st = finished_in s st ≡ true → none_can_in s st ≡ true

-- The scenario is formed, and the state stands for a history of it.
unfoldable pub Reached : Scenario → State → Type 0
Reached s st = Formed s × ((h : List Entry) × StandsFor s st h)

-- The turn is that of a lane, with these picks left, if any lane can step.
pub record HasTurn (s : Scenario) (st : State) (picks : List ℕ) (last lane : ℕ) (left : List ℕ) : Type 0 where
  pub turn : standing_of s st ≡ standing.Runs
      → turn_now s st picks last ≡ Some (record { lane = lane; picks = left })
