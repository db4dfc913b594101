-- The rules of a filter.
use Rattle.std.specs.Prelude.{ℕ, List, Option, Some, None, Result, Ok, Err, Bool, nat_le, if◌then◌else◌}
use Rattle.std.specs.Prelude.{codes, ℤ, pos, negsuc, ◌==◌}
use Rattle.std.specs.Str.{bytes_eq}
use Rattle.com_filter.specs.declared.Rule.{Rule}
use Rattle.com_filter.specs.declared.Rule.TheVariants as rules
use Rattle.com_filter.specs.declared.Verdict.{Verdict}
use Rattle.com_filter.specs.declared.Verdict.TheVariants as verdicts
use Rattle.com_text.specs.Words.{WordAt}
use Rattle.com_read_operands.specs.declared.faults.Fault.{Fault}
use Rattle.com_read_operands.specs.declared.faults.TheConstants.Fault.{NUMBER, UNEXPECTED}
use Rattle.com_read_operands.specs.Numbers.{signed_of}
use Rattle.com_read_operands.specs.Reading.{◌>>=◌, fault_at, word_at, end_at, number_at}
use Rattle.com_base.specs.declared.limits.TheConstants.{LAST_MS}
use Rattle.com_read_lines.specs.declared.rules.RuleWord.{RuleWord}
use Rattle.com_read_lines.specs.declared.rules.RuleWord.TheVariants as words

-- the kind of rule that a line's first word begins, and None for every other word
abbrev pub rule_word_of : List ℕ → Option RuleWord
rule_word_of bytes =
    if bytes_eq bytes (codes "incoming") then Some words.Incoming
    else (if bytes_eq bytes (codes "retry") then Some words.Retry
    else (if bytes_eq bytes (codes "pending") then Some words.Pending
    else None))

-- a call type, or any
unfoldable pub call_type_at : List WordAt → ℕ → Result (Option ℕ) Fault
call_type_at line k = do
  w ← word_at line k
  if bytes_eq w.bytes (codes "1") then Ok (Some 1)
      else (if bytes_eq w.bytes (codes "2") then Ok (Some 2)
      else (if bytes_eq w.bytes (codes "4") then Ok (Some 4)
      else (if bytes_eq w.bytes (codes "*") then Ok None
      else Err (fault_at UNEXPECTED w))))

-- the answer to an incoming call
unfoldable pub verdict_at : List WordAt → ℕ → Result Verdict Fault
verdict_at line k = do
  w ← word_at line k
  if bytes_eq w.bytes (codes "handled") then Ok verdicts.Handled
      else (if bytes_eq w.bytes (codes "rejected") then Ok verdicts.Rejected
      else (if bytes_eq w.bytes (codes "later") then Ok verdicts.Later
      else Err (fault_at UNEXPECTED w)))

-- the verdict that a caller got, or either
unfoldable pub refusal_at : List WordAt → ℕ → Result (Option Verdict) Fault
refusal_at line k = do
  w ← word_at line k
  if bytes_eq w.bytes (codes "rejected") then Ok (Some verdicts.Rejected)
      else (if bytes_eq w.bytes (codes "later") then Ok (Some verdicts.Later)
      else (if bytes_eq w.bytes (codes "*") then Ok None
      else Err (fault_at UNEXPECTED w)))

-- whether a number may answer a retry: -1, or 0 to `LAST_MS`
abbrev pub in_answers : ℤ → Bool
in_answers (pos n) = nat_le n LAST_MS
in_answers (negsuc n) = n == 0

-- the answer to a retry: a word that is no number, or none of the range, is fault `NUMBER`
abbrev pub as_answer : WordAt → Option ℤ → Result ℤ Fault
as_answer w None = Err (fault_at NUMBER w)
as_answer w (Some z) = if in_answers z then Ok z else Err (fault_at NUMBER w)

-- -1 to `LAST_MS`
unfoldable pub answer_at : List WordAt → ℕ → Result ℤ Fault
answer_at line k = do
  w ← word_at line k
  as_answer w (signed_of w.bytes)

-- the answer to a waiting caller
unfoldable pub kept_at : List WordAt → ℕ → Result ℕ Fault
kept_at line k = do
  w ← word_at line k
  if bytes_eq w.bytes (codes "cancel") then Ok 0
      else (if bytes_eq w.bytes (codes "wait") then Ok 1
      else (if bytes_eq w.bytes (codes "discard") then Ok 2
      else Err (fault_at UNEXPECTED w)))

-- the rule that a line spells behind its first word
unfoldable pub rule_of : RuleWord → List WordAt → Result Rule Fault
rule_of words.Incoming line = do
  call_type ← call_type_at line 1
  ms ← number_at 0 LAST_MS line 2
  verdict ← verdict_at line 3
  done ← end_at line 4
  Ok (rules.Incoming call_type ms verdict)
rule_of words.Retry line = do
  verdict ← refusal_at line 1
  ms ← number_at 0 LAST_MS line 2
  answer ← answer_at line 3
  done ← end_at line 4
  Ok (rules.Retry verdict ms answer)
rule_of words.Pending line = do
  ms ← number_at 0 LAST_MS line 1
  answer ← kept_at line 2
  done ← end_at line 3
  Ok (rules.Pending ms answer)
