-- Every input that is a scenario is replayed.
use Rattle.std.proofs.Common.{◌≡◌, ℕ, inl, inr, ◌⊎◌, List, ◌∙◌, ap, subst}
use Rattle.com_io.specs.Told.{Gains}
use Rattle.com_model.specs.declared.scenario.Scenario.{Scenario}
use Rattle.com_commands.specs.declared.inputs.Input.{Input}
use Rattle.com_commands.specs.declared.inputs.Input.TheVariants as input
use Rattle.com_command_replay.specs.Histories.{IsHistory}
use Rattle.com_commands.specs.Inputs.{IsAnswer}
use Rattle.com_commands.specs.Responses.{GainsWhole, IsWholeAnswer}
use Rattle.com_commands.specs.Statuses.{Sides, code_of}
use Rattle.com_commands.proofs.Answering.{responds_whole}
use Rattle.com_command_replay.specs.Scenarios.{IsReplayed, ScenariosReplay, scenario_input}

replayed : (code : ℕ) (sides : Sides) (bytes : List ℕ) (scenario : Scenario) → scenario_input bytes ≡ input.Reads scenario
    → IsWholeAnswer scenario_input IsHistory code sides bytes ⊎ (code ≡ 9)
    → IsReplayed code scenario sides.held sides.held_after ⊎ (code ≡ 9)
replayed code sides bytes scenario is (inl answer) =
    let whole : GainsWhole (IsHistory scenario) answer.status sides.held sides.held_after =
    subst (λ (i : Input Scenario). GainsWhole (IsAnswer IsHistory i) answer.status sides.held sides.held_after) is answer.whole in
    inl (record {
      ends = whole.answer.ends;
      ended_is = whole.answer.ended_is;
      number = answer.number ∙ ap code_of whole.answer.status_is;
      gained = subst (λ (t : List ℕ). Gains sides.held sides.held_after t) whole.answer.written whole.gained;
    })
replayed code sides bytes scenario is (inr wants) = inr wants

pub scenarios_replay : ScenariosReplay
scenarios_replay code sides bytes scenario responds told is calm_source calm_sink =
    replayed code sides bytes scenario is (responds_whole scenario_input IsHistory code sides bytes responds told calm_source calm_sink)
