-- A line, and the entry that it is.
use Rattle.std.specs.Prelude.{◌≡◌, ◌<◌, ◌^◌, ℕ, List, Some}
use Rattle.com_model.specs.declared.deeds.Entry.{Entry}
use Rattle.com_model.specs.declared.scenario.Scenario.{Scenario}
use Rattle.com_model.specs.State.{State}
use Rattle.com_runtime.specs.Turns.{IsNext}
use Rattle.com_check.specs.Fronts.{named}
use Rattle.com_replay.specs.Nexts.{HasNext}

-- The line names a lane that has a next entry.
pub record NamesNext (s : Scenario) (st : State) (line : List ℕ) : Type 0 where
  pub lane : ℕ
  pub low : lane < 2 ^ 32
  pub names : named line ≡ Some lane
  pub next : HasNext s st lane

-- The next entry of the lane that the line names was made.
pub record IsMadeFor (s : Scenario) (st : State) (line : List ℕ) (e : Entry) (new : State) : Type 0 where
  pub names : named line ≡ Some e.lane
  pub next : IsNext s st e.lane e new
