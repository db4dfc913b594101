-- What the rules rest on between entries.
use Rattle.std.specs.Prelude.{◌≡◌, ℕ, ◌+◌, ◌≤◌, length, [], None}
use Rattle.com_model.specs.declared.scenario.Scenario.{Scenario}
use Rattle.com_model.specs.Tables.{NoLane, lane_sort}
use Rattle.com_model.specs.State.{State, openers_in, admitted_in}
use Rattle.com_state.specs.Resting.{Settled}

-- The state is settled, nothing is open in a lane that is no thread's, host's or pool's, and no call was
-- entered that was not issued.
pub record Resting (s : Scenario) (st : State) : Type 0 where
  pub settled : Settled s st
  pub idle : (l : ℕ) → lane_sort s l ≡ NoLane → openers_in st l ≡ []
  pub unissued : (c : ℕ) → length st.issues + 1 ≤ c → admitted_in st c ≡ None
