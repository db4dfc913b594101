-- What `check` answers.
use Rattle.std.proofs.Common.{◌≡◌, ℕ, List, drop, subst, ◌∙◌, ap}
use Rattle.com_model.specs.declared.scenario.Scenario.{Scenario}
use Rattle.com_check.specs.declared.judged.Judged.{Judged}
use Rattle.com_check.specs.Judging.{IsJudged, judged_text}
use Rattle.com_commands.specs.declared.statuses.Status.{Status}
use Rattle.com_command_check.specs.declared.questions.Question.{Question}
use Rattle.com_command_check.specs.Checking.{IsVerdict, status_of}

-- A scenario is shared, and a text is looked at.
pub verdict_at : (q : Question) (shared : Scenario) (slice trace : List ℕ) (j : Judged) (s : Status) (text : List ℕ)
    → shared ≡ q.scenario → slice ≡ q.text → trace ≡ drop q.from slice → IsJudged shared trace j → text ≡ judged_text j → s ≡ status_of j
    → IsVerdict q s text
verdict_at q shared slice trace j s text is_shared is_slice is_trace judged written status = record {
  verdict = j;
  is = subst (λ (x : Scenario). IsJudged x (drop q.from q.text) j) is_shared
      (subst (λ (t : List ℕ). IsJudged shared t j) (is_trace ∙ ap (λ (t : List ℕ). drop q.from t) is_slice) judged);
  status_is = status;
  written = written;
}
