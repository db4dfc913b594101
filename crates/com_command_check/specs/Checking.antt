-- What the command `check` answers for an input.
use Rattle.std.specs.Prelude.{◌≡◌, ℕ, ◌≤◌, List, Bool, Result, Ok, Err, length, nat_lt, drop, take}
use Rattle.std.proofs.Common.{subst, sym}
use Rattle.com_read_operands.specs.declared.faults.Fault.{Fault}
use Rattle.com_read_operands.specs.declared.faults.TheConstants.Fault.{UNENDED}
use Rattle.com_model.specs.declared.scenario.Scenario.{Scenario}
use Rattle.com_model.specs.Formed.{Formed}
use Rattle.com_text.specs.Scanning.{lines_of}
use Rattle.com_scenario.specs.Scenarios.{reading}
use Rattle.com_check.specs.declared.cut.Cut.{Cut}
use Rattle.com_check.specs.declared.cut.Cut.TheVariants as cuts
use Rattle.com_check.specs.declared.judged.Judged.{Judged}
use Rattle.com_check.specs.declared.judged.Judged.TheVariants as judged
use Rattle.com_check.specs.Cuts.{cut_of}
use Rattle.com_check.specs.Judging.{IsJudged, judged_text}
use Rattle.com_commands.specs.declared.inputs.Input.{Input}
use Rattle.com_commands.specs.declared.statuses.Status.{Status}
use Rattle.com_commands.specs.declared.statuses.Status.TheVariants as status
use Rattle.com_commands.specs.Inputs.{input_of}
use Rattle.com_commands.specs.Statuses.{Concludes}
use Rattle.com_command_check.specs.declared.check.TheConstants.{TRACE_INPUT_LIMIT}
use Rattle.com_command_check.specs.declared.questions.Question.{Question}

-- Whether an input, a scenario's text and a trace, has more than 67,108,864 bytes.
abbrev pub is_long_trace : List ℕ → Bool
is_long_trace bytes = nat_lt TRACE_INPUT_LIMIT (length bytes)

-- A text without the line `trace` has a fault at its end, if it has none before.
abbrev pub without_trace : (line column : ℕ) → Result Scenario Fault → Result Question Fault
without_trace line column (Err fault) = Err fault
without_trace line column (Ok scenario) = Err (record { number = UNENDED; line = line; column = column })

abbrev pub with_trace : (text : List ℕ) (from : ℕ) → Result Scenario Fault → Result Question Fault
with_trace text from (Err fault) = Err fault
with_trace text from (Ok scenario) = Ok (record { scenario = scenario; text = text; from = from })

-- What a text asks by how it is cut: the scenario before the line `trace`, with the trace behind it; or its fault.
abbrev pub asked_by : List ℕ → Cut → Result Question Fault
asked_by bytes (cuts.Missing line column) = without_trace line column (reading bytes)
asked_by bytes (cuts.At until from) = with_trace bytes from (reading (take until bytes))

-- What a text asks: its first line `trace` parts the scenario's text from the trace.
unfoldable pub question_of : List ℕ → Result Question Fault
question_of bytes = asked_by bytes (cut_of 0 (lines_of bytes))

-- What an input is for `check`: too long, at fault, or a question.
abbrev pub question_input : List ℕ → Input Question
question_input = input_of is_long_trace question_of

-- The scenario is formed, and the trace lies in the text.
pub record IsAskable (q : Question) : Type 0 where
  pub formed : Formed q.scenario
  pub within : q.from ≤ length q.text

abbrev pub status_of : Judged → Status
status_of judged.Agrees = status.Done
status_of (judged.Differs line found legal) = status.Differs

-- A scenario's trace was judged, and this is the status and the text of the judgement.
pub record IsVerdict (q : Question) (s : Status) (text : List ℕ) : Type 0 where
  pub verdict : Judged
  pub is : IsJudged q.scenario (drop q.from q.text) verdict
  pub status_is : s ≡ status_of verdict
  pub written : text ≡ judged_text verdict

judged_concludes : (j : Judged) → Concludes (status_of j)
judged_concludes judged.Agrees = tt
judged_concludes (judged.Differs line found legal) = tt

pub verdict_concludes : (q : Question) (s : Status) (text : List ℕ) → IsVerdict q s text → Concludes s
verdict_concludes q s text v =
    subst (λ (x : Status). Concludes x) (sym v.status_is) (judged_concludes v.verdict)
