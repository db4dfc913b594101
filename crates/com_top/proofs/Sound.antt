-- The one history of every input that is a scenario is safe.
use Rattle.std.proofs.Common.{ℕ, List, Bool, true, false, Result, Ok, Err, refl, subst, if◌then◌else◌}
use Rattle.com_model.specs.declared.scenario.Scenario.{Scenario}
use Rattle.com_model.specs.Formed.{Formed}
use Rattle.com_read_operands.specs.declared.faults.Fault.{Fault}
use Rattle.com_scenario.proofs.Forms.{reading_formed}
use Rattle.com_scenario.specs.Scenarios.{reading}
use Rattle.com_scenario.specs.Sizes.{is_too_long}
use Rattle.com_laws_scenario.specs.Holds.{Holds}
use Rattle.com_commands.specs.declared.inputs.Input.{Input}
use Rattle.com_commands.specs.declared.inputs.Input.TheVariants as input
use Rattle.com_commands.specs.Inputs.{IsSound, input_of, read_as}
use Rattle.com_laws_safe.proofs.One.{scheduled-one}
use Rattle.com_command_replay.specs.Scenarios.{ScenariosAreSafe, scenario_input}

sound_read : (r : Result Scenario Fault) → Holds Formed r → IsSound Formed (read_as r)
sound_read (Ok s) h = h.of s refl
sound_read (Err f) h = tt

sound_as : (long : Bool) (r : Result Scenario Fault) → Holds Formed r
    → IsSound Formed (if long then input.TooLong else read_as r)
sound_as true r h = tt
sound_as false r h = sound_read r h

sound_input : (bytes : List ℕ) → IsSound Formed (scenario_input bytes)
unfolding input_of
sound_input bytes = sound_as (is_too_long bytes) (reading bytes) (reading_formed bytes)

pub scenarios_are_safe : ScenariosAreSafe
scenarios_are_safe bytes scenario is =
    scheduled-one scenario (subst (λ (i : Input Scenario). IsSound Formed i) is (sound_input bytes))
