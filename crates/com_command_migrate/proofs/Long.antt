-- A line has six bytes or more, so a trace of version 1 has not many.
use Rattle.std.proofs.Common.{sym, ap, subst, arith, length-append, inl, inr}
use Rattle.std.proofs.lemmas.Fmt.{decimal_by_steps}
use Rattle.std.specs.Prelude.{◌≡◌, refl, ℕ, ◌+◌, ◌*◌, ◌/◌, ◌%◌, ◌^◌, ◌<◌, ◌≤◌, ◌==◌, Bool, true, false, cond, List, [], ◌∷◌, ◌++◌, length, decimal}
use Rattle.com_model.specs.declared.deeds.Entry.{Entry}
use Rattle.com_model.specs.declared.scenario.Scenario.{Scenario}
use Rattle.com_model.specs.Ends.{limit, report, text}
use Rattle.com_model.specs.Formed.{Formed}
use Rattle.com_model.specs.Lists.{without_first}
use Rattle.com_model.specs.Rules.{legal}
use Rattle.com_model.specs.Text.{deed_line, history_text, line_text}
use Rattle.com_model.proofs.Lanes.{lane-within}
use Rattle.com_check.specs.Judging.{IsText, IsUpToEnd, Unended, entry_line}
use Rattle.com_check.proofs.Histories.{few_entries}
use Rattle.com_check.proofs.Joined.{text_is}
use Rattle.com_check.proofs.Names.{line_is}

abbrev IsSome : ℕ → List ℕ → Type 0
IsSome n ds = 1 ≤ length ds

one_digit : (n : ℕ) → n < 10 → IsSome n ((48 + n) ∷ [])
one_digit n p = omega arith

more_digits : (n : ℕ) (ds : List ℕ) → 10 ≤ n → IsSome (n / 10) ds → IsSome n (ds ++ (48 + n % 10) ∷ [])
more_digits n ds p q = omega (arith, q, length-append ds ((48 + n % 10) ∷ []))

some_digits : (n : ℕ) → n < 2 ^ 64 → 1 ≤ length (decimal n)
some_digits = decimal_by_steps IsSome one_digit more_digits

five : (a b r : List ℕ) → 1 ≤ length a → 1 ≤ length b → 5 ≤ length (a ++ 32 ∷ 76 ∷ (b ++ 32 ∷ r))
five a b r p q = omega (arith, p, q, length-append a (32 ∷ 76 ∷ (b ++ 32 ∷ r)), length-append b (32 ∷ r))

with_end : (v n : ℕ) (e : Entry) → entry_line v n e ++ 10 ∷ [] ≡ line_text v n e
unfolding entry_line
with_end v n e = refl

line_long : (v n : ℕ) (e : Entry) → n < 2 ^ 64 → e.lane < 2 ^ 64 → 6 ≤ length (line_text v n e)
line_long v n e p q =
    let front : 5 ≤ length (entry_line v n e) =
    subst (λ (x : List ℕ). 5 ≤ length x) (sym (line_is v n e))
    (five (decimal n) (decimal e.lane) (without_first (deed_line v [] e.deed)) (some_digits n p) (some_digits e.lane q)) in
    subst (λ (x : List ℕ). 6 ≤ length x) (with_end v n e) (omega (arith, front, length-append (entry_line v n e) (10 ∷ [])))

low_lane : (s : Scenario) (h : List Entry) (e : Entry) → Formed s → legal s (e ∷ h) → e.lane < 2 ^ 64
low_lane s h e f q = few s.pool (length s.threads) e.lane f.pool.1 f.threads.1 (lane-within s h e.lane e.deed q.1)
  where
    few : (p t l : ℕ) → p ≤ 8 → t ≤ 16 → l ≤ t + 1 + p → l < 2 ^ 64
    few p t l a b c = omega (arith, a, b, c)

low_place : (n k : ℕ) → n < k → k ≤ 1_000_000 → n + 1 < 2 ^ 64
low_place n k p q = omega (arith, p, q)

six_more : (n m k : ℕ) → 6 * n ≤ m → 6 ≤ k → 6 * (n + 1) ≤ m + k
six_more n m k p q = omega (arith, p, q)

text_long : (s : Scenario) (v : ℕ) (h : List Entry) → Formed s → legal s h → Unended s h → 6 * length h ≤ length (history_text v h)
text_long s v [] f q u = omega arith
text_long s v (e ∷ h) f q u =
    let own : 6 ≤ length (line_text v (length h + 1) e) = line_long v (length h + 1) e (low_place (length h) (limit s) u.1 (few_entries s)) (low_lane s h e f q) in
    let older : 6 * length h ≤ length (history_text v h) = text_long s v h f q.0 u.0 in
    omega (arith, six_more (length h) (length (history_text v h)) (length (line_text v (length h + 1) e)) older own, length-append (history_text v h) (line_text v (length h + 1) e))

up_to_end : (trace whole : List ℕ) → IsUpToEnd trace whole → length whole ≤ length trace + 1
up_to_end trace whole (inl e) = omega (arith, ap length e)
up_to_end trace whole (inr e) = omega (arith, ap length e, length-append trace (10 ∷ []))

pub few_lines : (s : Scenario) (trace : List ℕ) (t : IsText s trace) → Formed s → length trace ≤ 1_048_576 → length t.history < 200_000
few_lines s trace t f short =
    let whole : length (text s t.history ++ report s t.history) ≤ length trace + 1 = up_to_end trace (text s t.history ++ report s t.history) (text_is s trace t) in
    let long : 6 * length t.history ≤ length (text s t.history) = text_long s s.version t.history f t.lawful t.unended in
    let both = length-append (text s t.history) (report s t.history) in
    omega (arith, whole, long, both, short)

pub below : (s : Scenario) (n : ℕ) → n < 200_000 → n < limit s
below s n low = by-version (s.version == 2)
  where
    by-version : (b : Bool) → n < cond b 1_000_000 200_000
    by-version true = omega (arith, low)
    by-version false = low
