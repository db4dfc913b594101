-- What is drawn of a scenario with a trace.
use Rattle.std.specs.Prelude.{◌≡◌, ℕ, List, [], Some, drop}
use Rattle.com_check.specs.Agreeing.{IsOther}
use Rattle.com_check.specs.declared.judged.Judged.{Judged}
use Rattle.com_check.specs.Judging.{IsJudged, IsText, judged_text}
use Rattle.com_model.specs.declared.counts.Ended.{Ended}
use Rattle.com_model.specs.Ends.{ended_as}
use Rattle.com_commands.specs.declared.statuses.Status.{Status}
use Rattle.com_commands.specs.declared.statuses.Status.TheVariants as status
use Rattle.com_commands.specs.Statuses.{Concludes}
use Rattle.com_command_check.specs.declared.questions.Question.{Question}
use Rattle.com_command_draw.specs.Pages.{page_of}

-- The trace is the text and the report of a legal history that has ended, and the text is the page of that
-- history.
pub record IsTraceDrawn (q : Question) (text : List ℕ) : Type 0 where
  pub is : IsText q.scenario (drop q.from q.text)
  pub ends : Ended
  pub ended_is : ended_as q.scenario is.history ≡ Some ends
  pub written : text ≡ page_of q.scenario is.history ends []

-- The trace differs, and the text says where, as `check` does.
pub record IsTraceRefuted (q : Question) (text : List ℕ) : Type 0 where
  pub verdict : Judged
  pub is : IsJudged q.scenario (drop q.from q.text) verdict
  pub differs : IsOther verdict
  pub written : text ≡ judged_text verdict

-- The statuses are those of `check`: 0 goes with the page, and 7 with the line that differs.
abbrev pub IsTraceAnswer : Question → Status → List ℕ → Type 0
IsTraceAnswer q status.Done text = IsTraceDrawn q text
IsTraceAnswer q status.Differs text = IsTraceRefuted q text
IsTraceAnswer q _ text = ⊥

-- These statuses are those of texts that were written whole.
pub trace_concludes : (q : Question) (s : Status) (text : List ℕ) → IsTraceAnswer q s text → Concludes s
trace_concludes q status.Done text is = tt
trace_concludes q status.Differs text is = tt
trace_concludes q _ text is = absurd is
