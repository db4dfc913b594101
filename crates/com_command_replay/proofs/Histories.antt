-- What a replay answers.
use Rattle.std.proofs.Common.{◌≡◌, ℕ, inl, inr, List, refl, subst, Option, Some, None}
use Rattle.std.specs.Prelude.{true, is_some}
use Rattle.com_io.specs.Faults.{Rose}
use Rattle.com_io.specs.Told.{Gains, GainsPrefix}
use Rattle.com_model.specs.declared.counts.Ended.{Ended}
use Rattle.com_model.specs.declared.scenario.Scenario.{Scenario}
use Rattle.com_model.specs.Ends.{ended_as, scheduled}
use Rattle.com_replay.specs.declared.replayed.Replayed.{Replayed}
use Rattle.com_replay.specs.Replays.{IsReplay, whole_text}
use Rattle.com_laws_safe.proofs.Schedule.{legal-end}
use Rattle.com_commands.specs.declared.statuses.Status.{Status}
use Rattle.com_commands.specs.declared.statuses.Status.TheVariants as status
use Rattle.com_command_replay.specs.Histories.{IsHistory}
use Rattle.com_commands.specs.Responses.{GainsFront, IsAnswered}
use Rattle.com_commands.specs.Statuses.{status_at}

some_end : (o : Option Ended) → is_some o ≡ true → (x : Ended) × (o ≡ Some x)
some_end None e = cc
some_end (Some x) e = (x, refl)

-- The one history of a scenario has ended somehow.
pub history_of : (scenario : Scenario) → (s : Status) × IsHistory scenario s (whole_text scenario)
history_of scenario =
    let w : (x : Ended) × (ended_as scenario (scheduled scenario) ≡ Some x) = some_end (ended_as scenario (scheduled scenario)) ((legal-end scenario).1) in
    (status_at (w.0), record { ends = w.0; ended_is = w.1; written = refl; status_is = refl })

front_of : (scenario : Scenario) (held held_after : Option (List ℕ)) → GainsPrefix held held_after (whole_text scenario)
    → GainsFront (IsHistory scenario) held held_after
front_of scenario held held_after front =
    record { status = (history_of scenario).0; text = whole_text scenario; answer = (history_of scenario).1; gained = front }

-- All was written.
pub history_done : (scenario : Scenario) (r : Replayed) (s : Status) (held held_after : Option (List ℕ)) (faults faults_after : ℕ) → s ≡ status_at r.ended
    → IsReplay scenario r → Gains held held_after (whole_text scenario) → IsAnswered (IsHistory scenario) s held held_after faults faults_after
history_done scenario r s held held_after faults faults_after is replay gained = inl (record {
  text = whole_text scenario;
  answer = record { ends = r.ended; ended_is = replay.ends; written = refl; status_is = is };
  gained = gained;
})

-- The sink failed.
pub history_faults : (scenario : Scenario) (held held_after : Option (List ℕ)) (faults faults_after : ℕ) → Rose faults faults_after
    → GainsPrefix held held_after (whole_text scenario) → IsAnswered (IsHistory scenario) status.WriteFault held held_after faults faults_after
history_faults scenario held held_after faults faults_after rose front = inr (inl (refl, rose, front_of scenario held held_after front))

-- Memory wanted.
pub history_wants : (scenario : Scenario) (held held_after : Option (List ℕ)) (faults faults_after : ℕ)
    → GainsPrefix held held_after (whole_text scenario) → IsAnswered (IsHistory scenario) status.Memory held held_after faults faults_after
history_wants scenario held held_after faults faults_after front = inr (inr (refl, inr (front_of scenario held held_after front)))

-- What is answered for a scenario that is shared.
pub history_shared : (scenario shared : Scenario) (s : Status) (held held_after : Option (List ℕ)) (faults faults_after : ℕ) → shared ≡ scenario
    → IsAnswered (IsHistory shared) s held held_after faults faults_after → IsAnswered (IsHistory scenario) s held held_after faults faults_after
history_shared scenario shared s held held_after faults faults_after same answered =
    subst (λ (x : Scenario). IsAnswered (IsHistory x) s held held_after faults faults_after) same answered
