-- Which lanes have a next entry.
use Rattle.std.specs.Prelude.{◌≡◌, ℕ, Bool, true, false, is_some}
use Rattle.com_model.specs.declared.scenario.Scenario.{Scenario}
use Rattle.com_model.specs.State.{State, next_of}
use Rattle.com_runtime.specs.declared.runtime.Standing.{Standing}
use Rattle.com_runtime.specs.declared.runtime.Standing.TheVariants as standing

-- Whether a lane has a next entry, or the clock as lane 0.
unfoldable pub has_next_in : Scenario → State → (lane : ℕ) → Bool
has_next_in s st l = is_some (next_of s st l)

-- A lane has a next entry, or the clock as lane 0.
unfoldable pub HasNext : Scenario → State → (lane : ℕ) → Type 0
HasNext s st l = is_some (next_of s st l) ≡ true

-- Whether the clock goes on, in a runtime that stands so.
abbrev pub goes_on : Standing → Bool
goes_on standing.Ticks = true
goes_on standing.Runs = false
goes_on standing.Finished = false
goes_on standing.Stuck = false
