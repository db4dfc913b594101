-- A rule's line is read as the rule.
use Rattle.std.proofs.Common.{◌≡◌, ℕ, zero, suc, ◌≤◌, ◌⊎◌, ◌==◌, ◌||◌, List, [], ◌∷◌, map, Option, Some, None, Bool, true, false, nat_le, if◌then◌else◌, refl, sym, ap, ◌∙◌, arith, inl, inr, codes, decimal, Result, Ok, Err, bytes_eq, ℤ, pos, negsuc, length, ◌++◌}
use Rattle.std.specs.Fmt.{signed_decimal}
use Rattle.std.proofs.lemmas.Fmt.{decimal_digit}
use Rattle.std.proofs.lemmas.Bool.Decides.{nat_tests}
use Rattle.com_filter.specs.declared.Rule.{Rule}
use Rattle.com_filter.specs.declared.Rule.TheVariants as rules
use Rattle.com_filter.specs.declared.Verdict.{Verdict}
use Rattle.com_filter.specs.declared.Verdict.TheVariants as verdicts
use Rattle.com_model.specs.Formed.{IsRule, IsType, IsAsked, IsRetryAnswer}
use Rattle.com_text.specs.Words.{WordAt}
use Rattle.com_read_operands.specs.declared.faults.Fault.{Fault}
use Rattle.com_read_operands.specs.Numbers.{signed_of}
use Rattle.com_read_operands.specs.Reading.{◌>>=◌, fault_at}
use Rattle.com_read_sections.specs.Opened.{ruled}
use Rattle.com_read_lines.specs.Rules.{rule_word_of, call_type_at, verdict_at, refusal_at, in_answers, as_answer, answer_at, kept_at, rule_of}
use Rattle.com_print.specs.Spelled.{Spelled, plain, spelled_of}
use Rattle.com_print.specs.Ranges.{IsWhole}
use Rattle.com_print.proofs.Decimals.{signed_again}
use Rattle.com_print.proofs.Places.{at, stands, word_bytes, end_again, number_at_again}
use Rattle.com_print_scenario.specs.Printed.{number_word, type_word, verdict_word, refusal_word, kept_word, rule_words}
use Rattle.com_print_scenario.proofs.Places.{at_of}

abbrev type_by : WordAt → List ℕ → Result (Option ℕ) Fault
type_by w bs =
    if bytes_eq bs (codes "1") then Ok (Some 1)
    else (if bytes_eq bs (codes "2") then Ok (Some 2)
    else (if bytes_eq bs (codes "4") then Ok (Some 4)
    else (if bytes_eq bs (codes "*") then Ok None
    else Err (fault_at 3 w))))

three : (t : ℕ) → (t == 1 || (t == 2 || t == 4)) ≡ true → (t ≡ 1) ⊎ ((t ≡ 2) ⊎ (t ≡ 4))
three t h = grind (arith, nat_tests)

typed : (w : WordAt) (t m : ℕ) → t ≡ m → type_by w (decimal m) ≡ Ok (Some m) → type_by w (decimal t) ≡ Ok (Some t)
typed w t m e h = ap (λ n. type_by w (decimal n)) e ∙ h ∙ ap (λ n. Ok (Some n)) (sym e)

type_again : (line : List WordAt) (k : ℕ) (t : Option ℕ) → at line k ≡ Some (type_word t) → IsType t → call_type_at line k ≡ Ok t
unfolding call_type_at
type_again line k None h is = word_bytes type_by line k (codes "*") (stands line k _ h)
type_again line k (Some t) h is =
    let s = stands line k (number_word t) h in
    let one : type_by s.word (decimal 1) ≡ Ok (Some 1) = ap (type_by s.word) (decimal_digit 1 (omega arith)) in
    let two : type_by s.word (decimal 2) ≡ Ok (Some 2) = ap (type_by s.word) (decimal_digit 2 (omega arith)) in
    let four : type_by s.word (decimal 4) ≡ Ok (Some 4) = ap (type_by s.word) (decimal_digit 4 (omega arith)) in
    word_bytes type_by line k (decimal t) s
    ∙ elim (three t is) [
      | inl e ↦ typed s.word t 1 e one
      | inr more ↦ elim more [
        | inl e ↦ typed s.word t 2 e two
        | inr e ↦ typed s.word t 4 e four
      ]
    ]

abbrev verdict_by : WordAt → List ℕ → Result Verdict Fault
verdict_by w bs =
    if bytes_eq bs (codes "handled") then Ok verdicts.Handled
    else (if bytes_eq bs (codes "rejected") then Ok verdicts.Rejected
    else (if bytes_eq bs (codes "later") then Ok verdicts.Later
    else Err (fault_at 3 w)))

verdict_again : (line : List WordAt) (k : ℕ) (v : Verdict) → at line k ≡ Some (verdict_word v) → verdict_at line k ≡ Ok v
unfolding verdict_at
verdict_again line k verdicts.Handled h = word_bytes verdict_by line k (codes "handled") (stands line k _ h)
verdict_again line k verdicts.Rejected h = word_bytes verdict_by line k (codes "rejected") (stands line k _ h)
verdict_again line k verdicts.Later h = word_bytes verdict_by line k (codes "later") (stands line k _ h)

abbrev refusal_by : WordAt → List ℕ → Result (Option Verdict) Fault
refusal_by w bs =
    if bytes_eq bs (codes "rejected") then Ok (Some verdicts.Rejected)
    else (if bytes_eq bs (codes "later") then Ok (Some verdicts.Later)
    else (if bytes_eq bs (codes "*") then Ok None
    else Err (fault_at 3 w)))

refusal_again : (line : List WordAt) (k : ℕ) (v : Option Verdict) → at line k ≡ Some (refusal_word v) → IsAsked v → refusal_at line k ≡ Ok v
unfolding refusal_at
refusal_again line k None h is = word_bytes refusal_by line k (codes "*") (stands line k _ h)
refusal_again line k (Some verdicts.Handled) h is = absurd is
refusal_again line k (Some verdicts.Rejected) h is = word_bytes refusal_by line k (codes "rejected") (stands line k _ h)
refusal_again line k (Some verdicts.Later) h is = word_bytes refusal_by line k (codes "later") (stands line k _ h)

pub whole_answer : (z : ℤ) → IsRetryAnswer z → IsWhole z
whole_answer (pos n) is = omega (arith, is)
whole_answer (negsuc n) is = omega (arith, is)

good_answer : (z : ℤ) → IsRetryAnswer z → in_answers z ≡ true
good_answer (pos n) is = grind (arith, nat_tests)
good_answer (negsuc n) is = grind (arith, nat_tests)

answer_again : (line : List WordAt) (k : ℕ) (z : ℤ) → at line k ≡ Some (plain (signed_decimal z)) → IsRetryAnswer z → answer_at line k ≡ Ok z
unfolding answer_at
answer_again line k z h is =
    let s = stands line k (plain (signed_decimal z)) h in
    word_bytes (λ w bs. as_answer w (signed_of bs)) line k (signed_decimal z) s
    ∙ ap (as_answer s.word) (signed_again z (whole_answer z is))
    ∙ ap (λ (b : Bool). if b then Ok z else Err (fault_at 6 s.word)) (good_answer z is)

abbrev kept_by : WordAt → List ℕ → Result ℕ Fault
kept_by w bs =
    if bytes_eq bs (codes "cancel") then Ok 0
    else (if bytes_eq bs (codes "wait") then Ok 1
    else (if bytes_eq bs (codes "discard") then Ok 2
    else Err (fault_at 3 w)))

kept_again : (line : List WordAt) (k : ℕ) (n : ℕ) → at line k ≡ Some (kept_word n) → n ≤ 2 → kept_at line k ≡ Ok n
unfolding kept_at
kept_again line k zero h le = word_bytes kept_by line k (codes "cancel") (stands line k _ h)
kept_again line k (suc zero) h le = word_bytes kept_by line k (codes "wait") (stands line k _ h)
kept_again line k (suc (suc n)) h le = word_bytes kept_by line k (codes "discard") (stands line k _ h) ∙ ap Ok (omega arith)

-- what a rule's line is read as
pub record RuleReads (line : List WordAt) (r : Rule) : Type 0 where
  pub word : List ℕ
  pub rest : List Spelled
  pub first : map spelled_of line ≡ plain word ∷ rest
  pub no_end : bytes_eq word (codes "end") ≡ false
  pub read : (done : List Rule) (w : WordAt) → nat_le 32 (length done) ≡ false → ruled done w line (rule_word_of word) ≡ Ok (done ++ r ∷ [])

-- a filter with room takes one rule more
abbrev taken : List Rule → WordAt → Result Rule Fault → Bool → Result (List Rule) Fault
taken done w r full = if full then Err (fault_at 12 w) else (r >>= λ x. Ok (done ++ x ∷ []))

read_by : (done : List Rule) (w : WordAt) (q : Result Rule Fault) (r : Rule) → q ≡ Ok r → nat_le 32 (length done) ≡ false
    → taken done w q (nat_le 32 (length done)) ≡ Ok (done ++ r ∷ [])
read_by done w q r e room = ap (taken done w q) room ∙ ap (λ (x : Result Rule Fault). taken done w x false) e

pub rule_again : (line : List WordAt) (r : Rule) → map spelled_of line ≡ rule_words r → IsRule r → RuleReads line r
unfolding rule_of
rule_again line (rules.Incoming t ms v) e is = record {
  word = codes "incoming";
  rest = _;
  first = e;
  no_end = refl;
  read = λ done w room. read_by done w _ (rules.Incoming t ms v)
      (rw (
        type_again line 1 t (at_of line _ 1 e) is.0,
        number_at_again 0 2147483647 line 2 ms (at_of line _ 2 e) (omega arith) is.1 (omega arith),
        verdict_again line 3 v (at_of line _ 3 e),
        end_again line 4 (at_of line _ 4 e),
      ) refl) room;
}
rule_again line (rules.Retry v ms z) e is = record {
  word = codes "retry";
  rest = _;
  first = e;
  no_end = refl;
  read = λ done w room. read_by done w _ (rules.Retry v ms z)
      (rw (
        refusal_again line 1 v (at_of line _ 1 e) is.0,
        number_at_again 0 2147483647 line 2 ms (at_of line _ 2 e) (omega arith) is.1 (omega arith),
        answer_again line 3 z (at_of line _ 3 e) is.2,
        end_again line 4 (at_of line _ 4 e),
      ) refl) room;
}
rule_again line (rules.Pending ms n) e is = record {
  word = codes "pending";
  rest = _;
  first = e;
  no_end = refl;
  read = λ done w room. read_by done w _ (rules.Pending ms n)
      (rw (
        number_at_again 0 2147483647 line 1 ms (at_of line _ 1 e) (omega arith) is.0 (omega arith),
        kept_again line 2 n (at_of line _ 2 e) is.1,
        end_again line 3 (at_of line _ 3 e),
      ) refl) room;
}
