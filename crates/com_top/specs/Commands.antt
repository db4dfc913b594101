-- What is answered to each command.
use Rattle.std.specs.Prelude.{◌≡◌, ℕ, ◌⊎◌, List, [], ◌∷◌, codes, ⊤}
use Rattle.com_io.specs.Faults.{Rose}
use Rattle.com_io.specs.Told.{Gains, GainsPrefix}
use Rattle.com_command_replay.specs.Replays.{whole_served}
use Rattle.com_command_replay.specs.Histories.{IsHistory}
use Rattle.com_commands.specs.declared.statuses.TheConstants.{USAGE_CODE, WRITE_FAULT_CODE}
use Rattle.com_commands.specs.Responses.{Responds, Serves}
use Rattle.com_commands.specs.Inputs.{input_of}
use Rattle.com_commands.specs.Statuses.{Sides}
use Rattle.com_scenario.specs.Sizes.{is_too_long}
use Rattle.com_points.specs.Sources.{reading_points}
use Rattle.com_command_points.specs.Playing.{IsPlayed}
use Rattle.com_dispatch.specs.Late.{late}
use Rattle.com_command_dispatch.specs.Dispatching.{IsDispatched, dispatched_served}
use Rattle.com_command_migrate.specs.Migrating.{IsMigrated, migrating}
use Rattle.com_command_run.specs.Runs.{IsRun}
use Rattle.com_top.specs.declared.words.Command.{Command}
use Rattle.com_top.specs.declared.words.Command.TheVariants as command
use Rattle.com_command_check.specs.Checking.{IsVerdict, question_input}
use Rattle.com_top.specs.Explaining.{IsExplained}
use Rattle.com_top.specs.Loading.{IsLoaded, load_input, loaded_served}
use Rattle.com_command_replay.specs.Scenarios.{scenario_input}
use Rattle.com_top.specs.Showing.{IsShown, digits_input}

abbrev pub usage_line : List ℕ
usage_line = codes "usage: comrun replay|run|check|load N|objref|migrate|waits|dispatch|points\n"

-- The usage line was written, and the code is 1; or the sink's count rose, a prefix of the line was written,
-- and the code is 4.
abbrev pub IsUsage : (code : ℕ) → Sides → Type 0
IsUsage code sides =
    ((code ≡ USAGE_CODE) × Gains sides.held sides.held_after usage_line)
    ⊎ ((code ≡ WRITE_FAULT_CODE) × Rose sides.write_faults sides.write_faults_after
    × GainsPrefix sides.held sides.held_after usage_line)

-- Each exit status has its cause. Status 1 is that of other words alone. The sides of a command that reads
-- nothing are those without a source (`alone`).
abbrev pub Answered : Command → (code : ℕ) → (sides alone : Sides) → Type 0
Answered command.Replay code sides alone = Responds scenario_input IsHistory code sides
Answered command.Run code sides alone = Responds scenario_input IsRun code sides
Answered command.Check code sides alone = Responds question_input IsVerdict code sides
Answered (command.Load number) code sides alone = Responds (load_input number) IsLoaded code alone
Answered command.ObjRef code sides alone = Responds digits_input IsShown code sides
Answered command.Migrate code sides alone = Responds migrating IsMigrated code sides
Answered command.Waits code sides alone = Responds scenario_input IsExplained code sides
Answered command.Dispatch code sides alone = Responds (input_of is_too_long late) IsDispatched code sides
Answered command.Points code sides alone = Responds (input_of is_too_long reading_points) IsPlayed code sides
Answered command.Usage code sides alone = IsUsage code alone

-- The counts of the first row.
abbrev pub first : List (List ℕ) → List ℕ
first [] = []
first (row ∷ rows) = row

-- The counts of all rows behind it.
abbrev pub others : List (List ℕ) → List (List ℕ)
others [] = []
others (row ∷ rows) = rows

-- The servants' counts of steps: a command that replays has had them count its history, and no other command
-- has had one make a step.
abbrev pub Served : Command → (code : ℕ) → (sides alone : Sides) → (steps steps_after : List ℕ) → Type 0
Served command.Replay code sides alone steps steps_after =
    Serves scenario_input IsHistory whole_served code sides steps steps_after
Served (command.Load number) code sides alone steps steps_after =
    Serves (load_input number) IsLoaded loaded_served code alone steps steps_after
Served command.Waits code sides alone steps steps_after =
    Serves scenario_input IsExplained whole_served code sides steps steps_after
Served command.Dispatch code sides alone steps steps_after =
    Serves (input_of is_too_long late) IsDispatched dispatched_served code sides steps steps_after
Served command.Points code sides alone steps steps_after =
    Serves (input_of is_too_long reading_points) IsPlayed whole_served code sides steps steps_after
Served _ code sides alone steps steps_after = steps_after ≡ steps

-- The counts of a crew, row by row, where the crew keeps its rows: the first row's are those that `Served`
-- speaks of, and the others are as before.
abbrev pub CrewServed : Command → (code : ℕ) → (sides alone : Sides)
    → (steps steps_after : List (List ℕ)) → Type 0
CrewServed asked code sides alone steps steps_after =
    Served asked code sides alone (first steps) (first steps_after) × (others steps_after ≡ others steps)

-- The commands that read no input.
abbrev pub ReadsNone : Command → Type 0
ReadsNone (command.Load number) = ⊤
ReadsNone command.Usage = ⊤
ReadsNone _ = ⊥
