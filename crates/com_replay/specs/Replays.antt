-- What a whole replay writes and answers.
use Rattle.std.specs.Prelude.{◌≡◌, ℕ, List, ◌++◌, Some, length}
use Rattle.com_model.specs.declared.deeds.Entry.{Entry}
use Rattle.com_model.specs.declared.scenario.Scenario.{Scenario}
use Rattle.com_model.specs.Clock.{clock}
use Rattle.com_model.specs.Ends.{ended_as, report, scheduled, text}
use Rattle.com_replay.specs.declared.replayed.Replayed.{Replayed}
use Rattle.com_runtime.specs.Turns.{served_by}

-- The one history of the schedule.
unfoldable pub whole_history : Scenario → List Entry
whole_history s = scheduled s

-- The lines of the one history of the schedule, and the report.
unfoldable pub whole_text : Scenario → List ℕ
whole_text s = text s (scheduled s) ++ report s (scheduled s)

-- The answer: how the one history ended, how many entries it has, and where its clock stands.
pub record IsReplay (s : Scenario) (r : Replayed) : Type 0 where
  pub ends : ended_as s (scheduled s) ≡ Some r.ended
  pub length_is : r.entries ≡ length (scheduled s)
  pub clock_is : r.clock ≡ clock (scheduled s)

-- The servants' counts after the one history.
unfoldable pub whole_served : Scenario → List ℕ → List ℕ
whole_served s steps = served_by s (scheduled s) steps
