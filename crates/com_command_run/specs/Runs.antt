-- What the command `run` answers.
use Rattle.std.specs.Prelude.{◌≡◌, List, ◌++◌, ℕ, Some}
use Rattle.com_commands.specs.declared.statuses.Status.{Status}
use Rattle.com_commands.specs.Statuses.{status_at}
use Rattle.com_model.specs.declared.counts.Ended.{Ended}
use Rattle.com_model.specs.declared.deeds.Entry.{Entry}
use Rattle.com_model.specs.declared.scenario.Scenario.{Scenario}
use Rattle.com_model.specs.Ends.{ended_as, report, text}
use Rattle.com_model.specs.Rules.{legal}
use Rattle.com_model.specs.Safe.{Safe}

-- The text is that of a history and its report, as a replay writes them: the history is legal in the scenario
-- and safe, and it has ended; the status is that of its end.
pub record IsRun (s : Scenario) (st : Status) (written : List ℕ) : Type 0 where
  pub history : List Entry
  pub lawful : legal s history
  pub safe : Safe s history
  pub ends : Ended
  pub ended_is : ended_as s history ≡ Some ends
  pub status_is : st ≡ status_at ends
  pub written_is : written ≡ text s history ++ report s history
