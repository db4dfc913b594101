-- A scenario as an input, and what is known of the replay of each.
use Rattle.std.specs.Prelude.{◌≡◌, ℕ, ◌⊎◌, List, Option, Some}
use Rattle.com_io.specs.Faults.{Rose}
use Rattle.com_io.specs.Told.{Gains}
use Rattle.com_model.specs.declared.counts.Ended.{Ended}
use Rattle.com_model.specs.declared.scenario.Scenario.{Scenario}
use Rattle.com_model.specs.Ends.{ended_as, scheduled}
use Rattle.com_replay.specs.Replays.{whole_text}
use Rattle.com_scenario.specs.Scenarios.{reading}
use Rattle.com_scenario.specs.Sizes.{is_too_long}
use Rattle.com_laws_safe.specs.OneHistory.{OneHistory}
use Rattle.com_commands.specs.declared.statuses.TheConstants.{MEMORY_CODE}
use Rattle.com_commands.specs.declared.inputs.Input.{Input}
use Rattle.com_commands.specs.declared.inputs.Input.TheVariants as input
use Rattle.com_command_replay.specs.Histories.{IsHistory}
use Rattle.com_commands.specs.Inputs.{input_of}
use Rattle.com_commands.specs.Responses.{Responds}
use Rattle.com_commands.specs.Statuses.{Sides, code_of, status_at}

-- What an input of these bytes is: too long for its version, faulty, or a scenario.
abbrev pub scenario_input : List ℕ → Input Scenario
scenario_input = input_of is_too_long reading

-- The number is that of the end of the one history of a scenario, and the sink gained exactly the text and
-- the report of that history.
pub record IsReplayed (code : ℕ) (scenario : Scenario) (held held_after : Option (List ℕ)) : Type 0 where
  pub ends : Ended
  pub ended_is : ended_as scenario (scheduled scenario) ≡ Some ends
  pub number : code ≡ code_of (status_at ends)
  pub gained : Gains held held_after (whole_text scenario)

-- So it is for every input that is a scenario, where it was told and no count of faults rose; or want of
-- memory comes.
abbrev pub ScenariosReplay : Type 0
ScenariosReplay = (code : ℕ) (sides : Sides) (bytes : List ℕ) (scenario : Scenario)
    → Responds scenario_input IsHistory code sides → sides.left ≡ Some bytes
    → scenario_input bytes ≡ input.Reads scenario
    → (Rose sides.read_faults sides.read_faults_after → ⊥)
    → (Rose sides.write_faults sides.write_faults_after → ⊥)
    → IsReplayed code scenario sides.held sides.held_after ⊎ (code ≡ MEMORY_CODE)

-- The one history of the schedule of every input that is a scenario is legal, has ended and is safe, and no
-- other legal history has its text.
abbrev pub ScenariosAreSafe : Type 0
ScenariosAreSafe = (bytes : List ℕ) (scenario : Scenario) → scenario_input bytes ≡ input.Reads scenario
    → OneHistory scenario (scheduled scenario)
