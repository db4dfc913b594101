-- What a turn of the driver did.
use Rattle.std.specs.Prelude.{◌≡◌, ℕ, ◌+◌, ◌≤◌, Some}
use Rattle.com_runtime.specs.Standings.{ended_now}
use Rattle.com_model.specs.declared.scenario.Scenario.{Scenario}
use Rattle.com_model.specs.State.{State}
use Rattle.com_model.specs.Tables.{lanes}
use Rattle.com_threads.specs.declared.drive.Driven.{Driven}
use Rattle.com_threads.specs.declared.drive.Driven.TheVariants.{Made, Over}

-- There is one entry more, and the last lane is one of the scenario's; or the history has ended so.
abbrev pub IsDriven : Scenario → State → (old new : ℕ) → Driven → Type 0
IsDriven s st old new (Made lane) = (new ≡ old + 1) × (lane ≤ lanes s)
IsDriven s st old new (Over x) = ended_now s st ≡ Some x
