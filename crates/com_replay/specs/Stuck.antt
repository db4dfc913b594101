-- Whether a history is stuck, by its entries in the order of their making, and what explains it.
use Rattle.std.specs.Prelude.{◌≤◌, Bool, true, false, List, Option, length}
use Rattle.com_model.specs.declared.deeds.Entry.{Entry}
use Rattle.com_model.specs.declared.scenario.Scenario.{Scenario}
use Rattle.com_model.specs.Ends.{limit, stuck}
use Rattle.com_model.specs.Formed.{Formed}
use Rattle.com_model.specs.Rules.{legal}
use Rattle.com_runtime.specs.declared.runtime.Standing.{Standing}
use Rattle.com_runtime.specs.declared.runtime.Standing.TheVariants as standing
use Rattle.com_waits.specs.declared.reasons.Waits.{Waits}
use Rattle.com_waits.specs.Chains.{explanation_of}
use Rattle.com_waits.specs.Walks.{told}

-- The entries tell a legal history of a formed scenario, within its limit.
pub record IsLawful (s : Scenario) (entries : List Entry) : Type 0 where
  pub formed : Formed s
  pub lawful : legal s (told entries)
  pub few : length entries ≤ limit s

-- Whether a runtime that stands so is stuck.
abbrev pub is_stuck : Standing → Bool
is_stuck standing.Stuck = true
is_stuck standing.Runs = false
is_stuck standing.Ticks = false
is_stuck standing.Finished = false

-- Whether a history's entries are stuck, and why, in words that no tactic unfolds.
unfoldable pub is_stuck_by : Scenario → List Entry → Bool
is_stuck_by s entries = stuck s (told entries)

unfoldable pub explained_by : Scenario → List Entry → Option Waits
explained_by s entries = explanation_of s (told entries)
