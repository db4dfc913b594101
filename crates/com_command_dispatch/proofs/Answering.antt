-- What is answered, from what the calls below answer.
use Rattle.std.proofs.Common.{◌≡◌, ℕ, ◌≤◌, inl, inr, List, ◌++◌, refl, sym, subst, Option, arith}
use Rattle.com_io.specs.Faults.{Rose}
use Rattle.com_io.specs.Told.{Gains, GainsPrefix}
use Rattle.com_io.proofs.Passing.{gains_both, gains_then_prefix, prefix_of_more, prefix_of_all}
use Rattle.com_model.specs.declared.scenario.Scenario.{Scenario}
use Rattle.com_command_replay.specs.Replays.{whole_text}
use Rattle.com_command_replay.proofs.Histories.{history_of}
use Rattle.com_commands.specs.declared.statuses.Status.{Status}
use Rattle.com_commands.specs.declared.statuses.Status.TheVariants as status
use Rattle.com_command_replay.specs.Histories.{IsHistory}
use Rattle.com_commands.specs.Responses.{GainsWhole, GainsFront, IsAnswered}
use Rattle.com_dispatch.specs.declared.outcomes.Late.{Late}
use Rattle.com_command_dispatch.specs.Lines.{bindings_text}
use Rattle.com_command_dispatch.specs.Dispatching.{dispatched_text, IsDispatched}

-- the one history of a scenario has ended somehow
dispatched : (l : Late) → (s : Status) × IsDispatched l s (dispatched_text l)
dispatched l =
    let w : (s : Status) × IsHistory l.scenario s (whole_text l.scenario) = history_of l.scenario in
    (w.0, record { ends = (w.1).ends; ended_is = (w.1).ended_is; written = refl; status_is = (w.1).status_is })

front_of : (l : Late) (held held_after : Option (List ℕ)) → GainsPrefix held held_after (dispatched_text l) → GainsFront (IsDispatched l) held held_after
front_of l held held_after front = record { status = (dispatched l).0; text = dispatched_text l; answer = (dispatched l).1; gained = front }

rose_later : (a b c : ℕ) → a ≤ b → Rose b c → Rose a c
rose_later a b c le (inl lt) = inl (omega arith)
rose_later a b c le (inr top) = inr top

-- ---- the lines, and then the scenario

-- the sink failed at the lines
pub lines_fault : (l : Late) (lines : List ℕ) (held held_after : Option (List ℕ)) (faults faults_after : ℕ) → lines ≡ bindings_text l.bindings → Rose faults faults_after
    → GainsPrefix held held_after lines → IsAnswered (IsDispatched l) status.WriteFault held held_after faults faults_after
unfolding dispatched_text
lines_fault l lines held held_after faults faults_after e rose k =
    inr (inl (refl, rose, front_of l held held_after (subst (λ (x : List ℕ). GainsPrefix held held_after (x ++ whole_text l.scenario)) e (prefix_of_more held held_after lines (whole_text l.scenario) k))))

-- a front of the whole text, behind the lines
front_behind : (l : Late) (lines text : List ℕ) (held mid held_after : Option (List ℕ)) → lines ≡ bindings_text l.bindings → text ≡ whole_text l.scenario
    → Gains held mid lines → GainsPrefix mid held_after text → GainsFront (IsDispatched l) held held_after
unfolding dispatched_text
front_behind l lines text held mid held_after e f g k =
    let whole : GainsPrefix mid held_after (whole_text l.scenario) = subst (λ (x : List ℕ). GainsPrefix mid held_after x) f k in
    front_of l held held_after (subst (λ (x : List ℕ). GainsPrefix held held_after (x ++ whole_text l.scenario)) e (gains_then_prefix held mid held_after lines (whole_text l.scenario) g whole))

lines_alone : (l : Late) (lines : List ℕ) (held mid held_after : Option (List ℕ)) → lines ≡ bindings_text l.bindings → Gains held mid lines → held_after ≡ mid → GainsFront (IsDispatched l) held held_after
unfolding dispatched_text
lines_alone l lines held mid held_after e g same =
    let all : GainsPrefix held mid lines = prefix_of_all held mid lines g in
    let more : GainsPrefix held mid (lines ++ whole_text l.scenario) = prefix_of_more held mid lines (whole_text l.scenario) all in
    let whole : GainsPrefix held mid (bindings_text l.bindings ++ whole_text l.scenario) = subst (λ (x : List ℕ). GainsPrefix held mid (x ++ whole_text l.scenario)) e more in
    front_of l held held_after (subst (λ (x : Option (List ℕ)). GainsPrefix held x (bindings_text l.bindings ++ whole_text l.scenario)) (sym same) whole)

whole_behind : (l : Late) (lines : List ℕ) (s : Status) (held mid held_after : Option (List ℕ)) → lines ≡ bindings_text l.bindings → Gains held mid lines
    → GainsWhole (IsHistory l.scenario) s mid held_after → GainsWhole (IsDispatched l) s held held_after
unfolding dispatched_text
whole_behind l lines s held mid held_after e g k =
    let rest : Gains mid held_after (whole_text l.scenario) = subst (λ (x : List ℕ). Gains mid held_after x) k.answer.written k.gained in
    record {
      text = dispatched_text l;
      answer = record { ends = k.answer.ends; ended_is = k.answer.ended_is; written = refl; status_is = k.answer.status_is };
      gained = subst (λ (x : List ℕ). Gains held held_after (x ++ whole_text l.scenario)) e (gains_both held mid held_after lines (whole_text l.scenario) g rest);
    }

pub answered_behind : (l : Late) (lines : List ℕ) (scenario : Scenario) (s : Status) (held mid held_after : Option (List ℕ)) (faults between faults_after : ℕ) → lines ≡ bindings_text l.bindings → scenario ≡ l.scenario
    → Gains held mid lines → faults ≤ between → IsAnswered (IsHistory scenario) s mid held_after between faults_after → IsAnswered (IsDispatched l) s held held_after faults faults_after
answered_behind l lines scenario s held mid held_after faults between faults_after e f g le answered =
    behind (subst (λ (x : Scenario). IsAnswered (IsHistory x) s mid held_after between faults_after) f answered)
  where
    behind : IsAnswered (IsHistory l.scenario) s mid held_after between faults_after → IsAnswered (IsDispatched l) s held held_after faults faults_after
    behind (inl whole) = inl (whole_behind l lines s held mid held_after e g whole)
    behind (inr (inl fault)) = inr (inl (fault.0, rose_later faults between faults_after le fault.1, front_behind l lines fault.2.text held mid held_after e fault.2.answer.written g fault.2.gained))
    behind (inr (inr (is, inl same))) = inr (inr (is, inr (lines_alone l lines held mid held_after e g same)))
    behind (inr (inr (is, inr front))) = inr (inr (is, inr (front_behind l lines front.text held mid held_after e front.answer.written g front.gained)))

pub behind_lines : (l : Late) (s : Status) (text : List ℕ) → IsDispatched l s text → (rest : List ℕ) × (text ≡ bindings_text l.bindings ++ rest) × IsHistory l.scenario s rest
unfolding dispatched_text
behind_lines l s text h = (whole_text l.scenario, h.written, record { ends = h.ends; ended_is = h.ended_is; written = refl; status_is = h.status_is })
