-- What is answered to each request.
use Rattle.std.specs.Prelude.{◌≡◌, ℕ, ◌⊎◌, List, codes, ⊤}
use Rattle.com_io.specs.Faults.{Rose}
use Rattle.com_io.specs.Told.{Gains, GainsPrefix}
use Rattle.com_replay.specs.Replays.{whole_served}
use Rattle.com_commands.specs.declared.statuses.TheConstants.{USAGE_CODE, WRITE_FAULT_CODE}
use Rattle.com_commands.specs.Inputs.{input_of}
use Rattle.com_commands.specs.Responses.{Responds, Serves}
use Rattle.com_commands.specs.Statuses.{Sides}
use Rattle.com_points.specs.Sources.{reading_points}
use Rattle.com_scenario.specs.Sizes.{is_too_long}
use Rattle.com_command_check.specs.Checking.{question_input}
use Rattle.com_command_replay.specs.Scenarios.{scenario_input}
use Rattle.com_command_draw.specs.declared.requests.Request.{Request}
use Rattle.com_command_draw.specs.declared.requests.Request.TheVariants as request
use Rattle.com_command_draw.specs.Pages.{ArePointsDrawn, IsDrawn}
use Rattle.com_command_draw.specs.Traces.{IsTraceAnswer}

abbrev pub usage_line : List ℕ
usage_line = codes "usage: comdraw replay|points|trace\n"

-- The usage line was written, and the code is 1; or the sink's count rose, a prefix of the line was written,
-- and the code is 4.
abbrev pub IsUsage : (code : ℕ) → Sides → Type 0
IsUsage code sides =
    ((code ≡ USAGE_CODE) × Gains sides.held sides.held_after usage_line)
    ⊎ ((code ≡ WRITE_FAULT_CODE) × Rose sides.write_faults sides.write_faults_after
    × GainsPrefix sides.held sides.held_after usage_line)

-- Each exit status has its cause. Status 1 is that of other words alone; they read nothing, and their sides
-- are those without a source (`alone`).
abbrev pub Answered : Request → (code : ℕ) → (sides alone : Sides) → Type 0
Answered request.Replay code sides alone = Responds scenario_input IsDrawn code sides
Answered request.Points code sides alone =
    Responds (input_of is_too_long reading_points) ArePointsDrawn code sides
Answered request.Trace code sides alone = Responds question_input IsTraceAnswer code sides
Answered request.Usage code sides alone = IsUsage code alone

-- The servants' counts of steps: a request that replays has had them count its history, and no other has had
-- one make a step.
abbrev pub Served : Request → (code : ℕ) → (sides : Sides) → (steps steps_after : List ℕ) → Type 0
Served request.Replay code sides steps steps_after =
    Serves scenario_input IsDrawn whole_served code sides steps steps_after
Served request.Points code sides steps steps_after =
    Serves (input_of is_too_long reading_points) ArePointsDrawn whole_served code sides steps steps_after
Served _ code sides steps steps_after = steps_after ≡ steps

-- The words that read no input.
abbrev pub ReadsNone : Request → Type 0
ReadsNone request.Usage = ⊤
ReadsNone _ = ⊥
