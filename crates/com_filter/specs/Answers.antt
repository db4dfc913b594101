-- What a filter answers: the first rule of the question's kind that matches, else the default.
use Rattle.std.specs.Prelude.{ℕ, ℤ, negsuc, List, [], ◌∷◌, Bool, true, false, ◌&&◌, ◌==◌, Option, Some, None}
use Rattle.std.specs.Prelude.{nat_le, unwrap_or, if◌then◌else◌}
use Rattle.com_filter.specs.declared.Verdict.{Verdict}
use Rattle.com_filter.specs.declared.Verdict.TheVariants as verdict
use Rattle.com_filter.specs.declared.Rule.{Rule}
use Rattle.com_filter.specs.declared.Rule.TheVariants as rule

-- Whether a rule for this call type, or for any, is for the type that is asked about.
abbrev pub is_for_type : Option ℕ → ℕ → Bool
is_for_type None call_type = true
is_for_type (Some wanted) call_type = wanted == call_type

-- Whether two verdicts are the same.
abbrev pub same_verdict : Verdict → Verdict → Bool
same_verdict verdict.Handled verdict.Handled = true
same_verdict verdict.Rejected verdict.Rejected = true
same_verdict verdict.Later verdict.Later = true
same_verdict left right = false

-- Whether a rule for this verdict, or for any, is for the verdict that is asked about.
abbrev pub is_for_verdict : Option Verdict → Verdict → Bool
is_for_verdict None asked = true
is_for_verdict (Some wanted) asked = same_verdict wanted asked

-- The answer of one rule to an incoming call of a call type, after so many milliseconds, if the rule matches.
abbrev pub incoming_by : Rule → ℕ → ℕ → Option Verdict
incoming_by (rule.Incoming wanted ms answer) call_type elapsed =
    if is_for_type wanted call_type && nat_le ms elapsed then Some answer else None
incoming_by other call_type elapsed = None

-- The answer of one rule to a caller that got a verdict, so many milliseconds after its call, if the rule
-- matches.
abbrev pub retry_by : Rule → Verdict → ℕ → Option ℤ
retry_by (rule.Retry wanted ms answer) asked elapsed =
    if is_for_verdict wanted asked && nat_le ms elapsed then Some answer else None
retry_by other asked elapsed = None

-- The answer of one rule to a waiting caller that has a word, so many milliseconds after its call, if the
-- rule matches.
abbrev pub pending_by : Rule → ℕ → Option ℕ
pending_by (rule.Pending ms answer) elapsed = if nat_le ms elapsed then Some answer else None
pending_by other elapsed = None

-- The first rule that matches answers. By default an incoming call is handled (SERVERCALL_ISHANDLED).
abbrev pub incoming_answer : List Rule → ℕ → ℕ → Verdict
incoming_answer [] call_type elapsed = verdict.Handled
incoming_answer (r ∷ rest) call_type elapsed =
    unwrap_or (incoming_by r call_type elapsed) (incoming_answer rest call_type elapsed)

-- The first rule that matches answers, and by default -1.
abbrev pub retry_answer : List Rule → Verdict → ℕ → ℤ
retry_answer [] asked elapsed = negsuc 0
retry_answer (r ∷ rest) asked elapsed = unwrap_or (retry_by r asked elapsed) (retry_answer rest asked elapsed)

-- The first rule that matches answers, and by default PENDINGMSG_WAITDEFPROCESS, 2.
abbrev pub pending_answer : List Rule → ℕ → ℕ
pending_answer [] elapsed = 2
pending_answer (r ∷ rest) elapsed = unwrap_or (pending_by r elapsed) (pending_answer rest elapsed)
