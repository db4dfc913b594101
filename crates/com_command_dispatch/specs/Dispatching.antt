-- What the command `dispatch` answers.
use Rattle.std.specs.Prelude.{◌≡◌, ℕ, List, ◌++◌, Some}
use Rattle.std.proofs.Common.{subst, sym}
use Rattle.com_command_replay.specs.Replays.{whole_text, whole_served}
use Rattle.com_model.specs.declared.counts.Ended.{Ended}
use Rattle.com_model.specs.Ends.{ended_as, scheduled}
use Rattle.com_model.specs.Formed.{Formed}
use Rattle.com_commands.specs.declared.statuses.Status.{Status}
use Rattle.com_commands.specs.Statuses.{Concludes, end_concludes, status_at}
use Rattle.com_dispatch.specs.declared.outcomes.Late.{Late}
use Rattle.com_command_dispatch.specs.Lines.{bindings_text}

-- The lines of the bindings, and then what `replay` writes for the scenario: the text and the report of its
-- one history.
unfoldable pub dispatched_text : Late → List ℕ
dispatched_text l = bindings_text l.bindings ++ whole_text l.scenario

-- That text, and the status of the end of the history.
pub record IsDispatched (l : Late) (s : Status) (text : List ℕ) : Type 0 where
  pub ends : Ended
  pub ended_is : ended_as l.scenario (scheduled l.scenario) ≡ Some ends
  pub written : text ≡ dispatched_text l
  pub status_is : s ≡ status_at ends

-- Its scenario is formed.
abbrev pub IsLate : Late → Type 0
IsLate l = Formed l.scenario

-- These statuses are those of texts that were written whole.
pub dispatched_concludes : (l : Late) (s : Status) (text : List ℕ) → IsDispatched l s text → Concludes s
dispatched_concludes l s text is =
    subst (λ (x : Status). Concludes x) (sym is.status_is) (end_concludes is.ends)

-- the servants' counts of steps after the history, by those before
abbrev pub dispatched_served : Late → List ℕ → List ℕ
dispatched_served l steps = whole_served l.scenario steps
