-- What the command `load` answers for a number.
use Rattle.std.specs.Prelude.{◌≡◌, ℕ, List, [], ◌++◌, Some, Ok, length, codes, decimal}
use Rattle.com_gen.specs.Loads.{load_text}
use Rattle.com_laws_load.specs.LoadScenarios.{load_scenario}
use Rattle.com_model.specs.declared.counts.Ended.{Ended}
use Rattle.com_model.specs.Clock.{clock}
use Rattle.com_model.specs.Ends.{ended_as, scheduled}
use Rattle.com_model.specs.Text.{report_text}
use Rattle.com_command_replay.specs.Replays.{whole_served}
use Rattle.com_scenario.specs.Scenarios.{reading}
use Rattle.com_commands.specs.declared.inputs.Input.{Input}
use Rattle.com_commands.specs.declared.statuses.Status.{Status}
use Rattle.com_commands.specs.Inputs.{always}
use Rattle.com_commands.specs.Statuses.{status_at}

-- What is printed: the number, and the last two lines of the report of a history with so many entries.
abbrev pub load_lines : (number entries clock : ℕ) → Ended → List ℕ
load_lines number entries time x =
    codes "load " ++ decimal number ++ codes "\n" ++ report_text [] entries time x

-- The number's text is that of its scenario, whose one history ends so.
pub record IsLoaded (number : ℕ) (s : Status) (text : List ℕ) : Type 0 where
  pub reads : reading (load_text number) ≡ Ok (load_scenario number)
  pub ends : Ended
  pub ended_is : ended_as (load_scenario number) (scheduled (load_scenario number)) ≡ Some ends
  pub written : text ≡ load_lines number (length (scheduled (load_scenario number)))
      (clock (scheduled (load_scenario number))) ends
  pub status_is : s ≡ status_at ends

-- The servants' counts after the history of a number's scenario.
abbrev pub loaded_served : ℕ → List ℕ → List ℕ
loaded_served number = whole_served (load_scenario number)

-- Nothing is read: what is asked is the number.
abbrev pub load_input : ℕ → List ℕ → Input ℕ
load_input number = always number
