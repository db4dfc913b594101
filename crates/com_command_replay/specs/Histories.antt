-- What a command writes and answers that replays a scenario.
use Rattle.std.specs.Prelude.{◌≡◌, ℕ, List, Some}
use Rattle.std.proofs.Common.{subst, sym}
pub use Rattle.com_replay.specs.declared.replayed.Replayed.{Replayed}
use Rattle.com_replay.specs.Replays.{whole_text}
use Rattle.com_model.specs.declared.counts.Ended.{Ended}
use Rattle.com_model.specs.declared.scenario.Scenario.{Scenario}
use Rattle.com_model.specs.Ends.{ended_as, scheduled}
use Rattle.com_commands.specs.declared.statuses.Status.{Status}
use Rattle.com_commands.specs.Statuses.{Concludes, end_concludes, status_at}

-- The text and the report of the one history of a scenario, and the status of its end.
pub record IsHistory (scenario : Scenario) (s : Status) (text : List ℕ) : Type 0 where
  pub ends : Ended
  pub ended_is : ended_as scenario (scheduled scenario) ≡ Some ends
  pub written : text ≡ whole_text scenario
  pub status_is : s ≡ status_at ends

-- These statuses are those of texts that were written whole.
pub history_concludes : (scenario : Scenario) (s : Status) (text : List ℕ) → IsHistory scenario s text
    → Concludes s
history_concludes scenario s text h =
    subst (λ (x : Status). Concludes x) (sym h.status_is) (end_concludes h.ends)
