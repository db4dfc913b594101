-- What the command `points` answers for a scenario.
use Rattle.std.specs.Prelude.{◌≡◌, ℕ, List, ◌++◌, Some}
use Rattle.std.proofs.Common.{subst, sym}
use Rattle.com_commands.specs.declared.statuses.Status.{Status}
use Rattle.com_commands.specs.Statuses.{Concludes, end_concludes, status_at}
use Rattle.com_deliveries.specs.declared.Delivery.{Delivery}
use Rattle.com_deliveries.specs.Delivered.{AreDeliveries}
use Rattle.com_replay.specs.Replays.{whole_text}
use Rattle.com_model.specs.declared.deeds.Entry.{Entry}
use Rattle.com_model.specs.declared.counts.Ended.{Ended}
use Rattle.com_model.specs.declared.scenario.Scenario.{Scenario}
use Rattle.com_model.specs.Ends.{ended_as, scheduled}
use Rattle.com_command_points.specs.Events.{event_lines}

-- A text is the lines of the events of a history, one for each call of `fire` on a source that has its Leave.
pub record AreLines (s : Scenario) (h : List Entry) (text : List ℕ) : Type 0 where
  pub events : List Delivery
  pub delivered : AreDeliveries s h events
  pub lines : text ≡ event_lines events

-- The text and the report of the one history of a scenario, and then the lines of its events; and the status
-- of its end.
pub record IsPlayed (scenario : Scenario) (s : Status) (text : List ℕ) : Type 0 where
  pub ends : Ended
  pub ended_is : ended_as scenario (scheduled scenario) ≡ Some ends
  pub rest : List ℕ
  pub events : AreLines scenario (scheduled scenario) rest
  pub written : text ≡ whole_text scenario ++ rest
  pub status_is : s ≡ status_at ends

-- These statuses are those of texts that were written whole.
pub played_concludes : (scenario : Scenario) (s : Status) (text : List ℕ) → IsPlayed scenario s text
    → Concludes s
played_concludes scenario s text is =
    subst (λ (x : Status). Concludes x) (sym is.status_is) (end_concludes is.ends)
