-- What an entry does to results that are on their way to the caller.
use Rattle.std.proofs.Common.{subst, sym, ap, ◌∙◌, eqb-true, arith}
use Rattle.std.proofs.lemmas.Bool.{false_from_ne_true}
use Rattle.std.proofs.lemmas.Grind.{common_steps}
use Rattle.std.specs.Prelude.{◌≡◌, refl, ℕ, zero, ◌+◌, ◌≤◌, ◌<◌, Bool, true, false, cond, not, ◌==◌, ◌&&◌, ◌||◌, List, [], ◌∷◌, Option, Some, None}
use Rattle.com_base.specs.declared.hresult.HResult.{HResult}
use Rattle.com_base.specs.declared.value.RefValue.{RefValue}
use Rattle.com_base.specs.declared.value.Value.{Value}
use Rattle.com_refs_books.specs.Counting.{sum_below, count_if}
use Rattle.com_refs_books.proofs.Sums.{sum-same, sum-more, sum-changed}
use Rattle.com_model.specs.declared.deeds.Deed.{Deed}
use Rattle.com_model.specs.declared.deeds.Deed.TheVariants as deed
use Rattle.com_model.specs.declared.deeds.Entry.{Entry}
use Rattle.com_model.specs.declared.scenario.Scenario.{Scenario}
use Rattle.com_model.specs.declared.keeps.Admission.{Admission}
use Rattle.com_model.specs.declared.keeps.Issue.{Issue}
use Rattle.com_model.specs.declared.keeps.Leaving.{Leaving}
use Rattle.com_model.specs.Calls.{issue, admitted, left, leaves, leaving_or, returned, calls, is_direct, route_of}
use Rattle.com_model.specs.Frames.{value_reference}
use Rattle.com_model.specs.Places.{Ground, ground, Test, passes, entered_in, left_value, in_result, in_results}
use Rattle.com_model.specs.Rules.{legal}
use Rattle.com_model.specs.Safe.{Stage, stage, stage_after, event}
use Rattle.com_model.proofs.Onces.{InRange, named-in-range, legal-once}
use Rattle.com_laws_balance.proofs.Directs.{issue-stays, admitted-past}
use Rattle.com_laws_balance.proofs.Answered.{left-admitted}
use Rattle.com_laws_balance.proofs.Tests.{enter-fresh}
use Rattle.com_laws_places.specs.Moves.{Moves, moved, no_moves, counted, entered_where, result_moved}
use Rattle.com_laws_places.proofs.Counted.{counted-slot}

abbrev pub result_moves : Ground → Deed → Moves
result_moves g (deed.Leave c hr v bytes) = record { lost = []; gained = result_moved g c v }
result_moves g (deed.Back c hr v) = record { lost = result_moved g c (left_value (g.left c)); gained = [] }
result_moves g _ = no_moves

-- ---- the result of one call

counted-held : (d r : Bool) (x : Option Admission) (held : Option RefValue) (a : ℕ) (t : Test)
    → counted (cond (d && not r) (moved (entered_where x) held) []) a t ≡ cond (d && (entered_in a x && not r)) (passes t held) 0
counted-held false r x held a t = refl
counted-held true true None held a t = refl
counted-held true true (Some y) held a t = elim (y.apartment == a) as (λ q. zero ≡ cond (q && false) (passes t held) zero) [ true ↦ refl | false ↦ refl ]
counted-held true false None held a t = refl
counted-held true false (Some y) held a t = counted-slot y.apartment held a t ∙ elim (y.apartment == a) as (λ q. cond q (passes t held) 0 ≡ cond (q && true) (passes t held) 0) [ true ↦ refl | false ↦ refl ]

counted-result : (g : Ground) (c : ℕ) (v : Option Value) (a : ℕ) (t : Test)
    → counted (result_moved g c v) a t ≡ cond (is_direct (route_of (g.issue c)) && (entered_in a (g.admitted c) && not (g.returned c))) (passes t (value_reference v)) 0
counted-result g c v a t = counted-held (is_direct (route_of (g.issue c))) (g.returned c) (g.admitted c) (value_reference v) a t

none-left : (g : Ground) (c a : ℕ) (t : Test) → g.left c ≡ None → in_result g a t c ≡ 0
none-left g c a t e =
    ap (λ (x : Option Leaving). cond (is_direct (route_of (g.issue c)) && (entered_in a (g.admitted c) && not (g.returned c))) (passes t (value_reference (left_value x))) 0) e
    ∙ nothing (is_direct (route_of (g.issue c)) && (entered_in a (g.admitted c) && not (g.returned c)))
  where
    nothing : (b : Bool) → cond b zero zero ≡ zero
    nothing true = refl
    nothing false = refl

back-none : (d x : Bool) (n : ℕ) → cond (d && (x && not true)) n 0 ≡ 0
back-none false x n = refl
back-none true true n = refl
back-none true false n = refl

-- ---- a call leaves once

or-none : (p q : Bool) → (p || q) ≡ false → (p ≡ false) × (q ≡ false)
or-none true q e = cc
or-none false q e = (refl, e)

stage-left-step : (d : Deed) (c : ℕ) (t : Stage) (x : Option Leaving) → (t.leave ≡ false → x ≡ None) → (stage_after (event d) c t).leave ≡ false → leaving_or (leaves d) c x ≡ None
stage-left-step (deed.Leave k hr v bytes) c t x f e =
    let p : ((k == c) ≡ false) × (t.leave ≡ false) = or-none (k == c) t.leave e in
    ap (λ (b : Bool). cond b (Some (record { call = k; hr = hr; value = v })) x) p.0 ∙ f p.1
stage-left-step (deed.Out k o i m r cause bytes) c t x f e = f e
stage-left-step (deed.Enter k o a z vs) c t x f e = f e
stage-left-step (deed.Back k hr v) c t x f e = f e
stage-left-step _ c t x f e = f e

stage-left : (h : List Entry) (c : ℕ) → (stage h c).leave ≡ false → left h c ≡ None
stage-left [] c e = refl
stage-left (e ∷ h) c p = stage-left-step e.deed c (stage h c) (left h c) (stage-left h c) p

-- ---- an entry

same-number : (n : ℕ) → (n == n) ≡ true
same-number n = grind (arith, common_steps)

apart : (c j : ℕ) → (j ≡ c → ⊥) → (c == j) ≡ false
apart c j n = false_from_ne_true (c == j) (λ e. n (sym (eqb-true c j e)))

no-calls : (n : ℕ) → count_if false + n ≡ n
no-calls n = omega arith

one-call : (n : ℕ) → count_if true + n + 1 ≡ n + 1 + 1
one-call n = omega arith

changed-by : (x y k n l m : ℕ) → x + k ≡ y + n → k + m ≡ n + l → x + l ≡ y + m
changed-by x y k n l m p q = omega (arith, p, q)

more-zero : (x y : ℕ) → x ≡ y → x + 0 ≡ y + 0
more-zero x y p = omega (arith, p)

same-sum : (f : ℕ → ℕ) (n : ℕ) → sum_below (count_if false + n + 1) f + 0 ≡ sum_below (n + 1) f + 0
same-sum f n = ap (λ (k : ℕ). sum_below (k + 1) f + 0) (no-calls n)

named-low : (s : Scenario) (h : List Entry) (l c : ℕ) (d : Deed) → legal s (record { lane = l; deed = d } ∷ h) → InRange (count_if false + calls h) c → c < calls h + 1
named-low s h l c d q p = let low : c ≤ count_if false + calls h = p.1 in omega (arith, low)

leave-result : (s : Scenario) (h : List Entry) (l c : ℕ) (hr : HResult) (v : Option Value) (bytes : Option (List ℕ)) (a : ℕ) (t : Test) → legal s (record { lane = l; deed = deed.Leave c hr v bytes } ∷ h)
    → sum_below (calls h + 1) (in_result (ground s (record { lane = l; deed = deed.Leave c hr v bytes } ∷ h)) a t) + 0 ≡ sum_below (calls h + 1) (in_result (ground s h) a t) + counted (result_moved (ground s h) c v) a t
leave-result s h l c hr v bytes a t q =
    let e : Entry = record { lane = l; deed = deed.Leave c hr v bytes } in
    let before : in_result (ground s h) a t c ≡ 0 = none-left (ground s h) c a t (stage-left h c ((legal-once s (e ∷ h) q).1.1)) in
    let after : in_result (ground s (e ∷ h)) a t c ≡ counted (result_moved (ground s h) c v) a t =
    ap (λ (b : Bool). cond (is_direct (route_of (issue h c)) && (entered_in a (admitted h c) && not (returned h c))) (passes t (value_reference (left_value (cond b (Some (record { call = c; hr = hr; value = v })) (left h c))))) 0) (same-number c)
    ∙ sym (counted-result (ground s h) c v a t) in
    let changed : sum_below (calls h + 1) (in_result (ground s (e ∷ h)) a t) + in_result (ground s h) a t c ≡ sum_below (calls h + 1) (in_result (ground s h) a t) + in_result (ground s (e ∷ h)) a t c =
    sum-changed (calls h + 1) c (in_result (ground s h) a t) (in_result (ground s (e ∷ h)) a t) (named-low s h l c (deed.Leave c hr v bytes) q (named-in-range s h e q))
    (λ j n. ap (λ (b : Bool). cond (is_direct (route_of (issue h j)) && (entered_in a (admitted h j) && not (returned h j))) (passes t (value_reference (left_value (cond b (Some (record { call = c; hr = hr; value = v })) (left h j))))) 0) (sym (apart c j n))) in
    omega (arith, before, after, changed)

back-result : (s : Scenario) (h : List Entry) (l c : ℕ) (hr : HResult) (v : Option Value) (a : ℕ) (t : Test) → legal s (record { lane = l; deed = deed.Back c hr v } ∷ h)
    → sum_below (calls h + 1) (in_result (ground s (record { lane = l; deed = deed.Back c hr v } ∷ h)) a t) + counted (result_moved (ground s h) c (left_value (left h c))) a t ≡ sum_below (calls h + 1) (in_result (ground s h) a t) + 0
back-result s h l c hr v a t q =
    let e : Entry = record { lane = l; deed = deed.Back c hr v } in
    let before : counted (result_moved (ground s h) c (left_value (left h c))) a t ≡ in_result (ground s h) a t c = counted-result (ground s h) c (left_value (left h c)) a t in
    let after : in_result (ground s (e ∷ h)) a t c ≡ 0 =
    ap (λ (b : Bool). cond (is_direct (route_of (issue h c)) && (entered_in a (admitted h c) && not (b || returned h c))) (passes t (value_reference (left_value (left h c)))) 0) (same-number c)
    ∙ back-none (is_direct (route_of (issue h c))) (entered_in a (admitted h c)) (passes t (value_reference (left_value (left h c)))) in
    let changed : sum_below (calls h + 1) (in_result (ground s (e ∷ h)) a t) + in_result (ground s h) a t c ≡ sum_below (calls h + 1) (in_result (ground s h) a t) + in_result (ground s (e ∷ h)) a t c =
    sum-changed (calls h + 1) c (in_result (ground s h) a t) (in_result (ground s (e ∷ h)) a t) (named-low s h l c (deed.Back c hr v) q (named-in-range s h e q))
    (λ j n. ap (λ (b : Bool). cond (is_direct (route_of (issue h j)) && (entered_in a (admitted h j) && not (b || returned h j))) (passes t (value_reference (left_value (left h j)))) 0) (sym (other-way c j n))) in
    omega (arith, before, after, changed)
  where
    other-way : (c j : ℕ) → (j ≡ c → ⊥) → (j == c) ≡ false
    other-way c j n = false_from_ne_true (j == c) (λ e. n (eqb-true j c e))

enter-result : (s : Scenario) (h : List Entry) (l c o b : ℕ) (k : Option ℕ) (vs : List Value) (a : ℕ) (t : Test) → legal s (record { lane = l; deed = deed.Enter c o b k vs } ∷ h)
    → sum_below (calls h + 1) (in_result (ground s (record { lane = l; deed = deed.Enter c o b k vs } ∷ h)) a t) ≡ sum_below (calls h + 1) (in_result (ground s h) a t)
enter-result s h l c o b k vs a t q =
    let e : Entry = record { lane = l; deed = deed.Enter c o b k vs } in
    let fresh : left h c ≡ None = left-admitted s h c q.0 (enter-fresh s h l c o b (deed.Enter c o b k vs) q.1 refl) in
    sum-same (calls h + 1) (in_result (ground s (e ∷ h)) a t) (in_result (ground s h) a t)
    (λ j m. elim (c == j) as (λ z. (c == j) ≡ z → cond (is_direct (route_of (issue h j)) && (entered_in a (cond z (Some (record { call = c; lane = l; apartment = b })) (admitted h j)) && not (returned h j))) (passes t (value_reference (left_value (left h j)))) 0 ≡ in_result (ground s h) a t j) [
      | true ↦ λ z. let none : left h j ≡ None = subst (λ (i : ℕ). left h i ≡ None) (eqb-true c j z) fresh in
          none-held j (is_direct (route_of (issue h j)) && (entered_in a (Some (record { call = c; lane = l; apartment = b })) && not (returned h j))) none ∙ sym (none-left (ground s h) j a t none)
      | false ↦ λ z. refl
    ] refl)
  where
    none-held : (j : ℕ) (x : Bool) → left h j ≡ None → cond x (passes t (value_reference (left_value (left h j)))) 0 ≡ 0
    none-held j true n = ap (λ (y : Option Leaving). passes t (value_reference (left_value y))) n
    none-held j false n = refl

out-result : (s : Scenario) (h : List Entry) (l : ℕ) (d : Deed) (g : Ground) (a : ℕ) (t : Test) → legal s (record { lane = l; deed = d } ∷ h) → g.left ≡ left h → ((j : ℕ) → j ≤ calls h → in_result g a t j ≡ in_result (ground s h) a t j)
    → sum_below (calls h + 1 + 1) (in_result g a t) ≡ sum_below (calls h + 1) (in_result (ground s h) a t)
out-result s h l d g a t q p f =
    sum-more (calls h + 1) 1 (in_result g a t) (λ j m. none-left g j a t (ap (λ (x : ℕ → Option Leaving). x j) p ∙ left-admitted s h j q.0 (admitted-past s h j q.0 m)))
    ∙ sum-same (calls h + 1) (in_result g a t) (in_result (ground s h) a t) (λ j m. f j (omega (arith, m)))

pub results-move : (s : Scenario) (h : List Entry) (l : ℕ) (d : Deed) (a : ℕ) (t : Test) → legal s (record { lane = l; deed = d } ∷ h)
    → in_results (ground s (record { lane = l; deed = d } ∷ h)) a t + counted (result_moves (ground s h) d).lost a t ≡ in_results (ground s h) a t + counted (result_moves (ground s h) d).gained a t
results-move s h l (deed.Out c o i m r k bytes) a t q =
    let e : Entry = record { lane = l; deed = deed.Out c o i m r k bytes } in
    more-zero _ _ (ap (λ (n : ℕ). sum_below n (in_result (ground s (e ∷ h)) a t)) (one-call (calls h))
    ∙ out-result s h l (deed.Out c o i m r k bytes) (ground s (e ∷ h)) a t q refl
    (λ j low. ap (λ (x : Option Issue). cond (is_direct (route_of x) && (entered_in a (admitted h j) && not (returned h j))) (passes t (value_reference (left_value (left h j)))) 0) (issue-stays s h e j q low)))
results-move s h l (deed.Enter c o b k vs) a t q =
    let e : Entry = record { lane = l; deed = deed.Enter c o b k vs } in
    more-zero _ _ (ap (λ (n : ℕ). sum_below (n + 1) (in_result (ground s (e ∷ h)) a t)) (no-calls (calls h)) ∙ enter-result s h l c o b k vs a t q)
results-move s h l (deed.Leave c hr v bytes) a t q =
    let e : Entry = record { lane = l; deed = deed.Leave c hr v bytes } in
    ap (λ (n : ℕ). sum_below (n + 1) (in_result (ground s (e ∷ h)) a t) + 0) (no-calls (calls h)) ∙ leave-result s h l c hr v bytes a t q
results-move s h l (deed.Back c hr v) a t q =
    let e : Entry = record { lane = l; deed = deed.Back c hr v } in
    ap (λ (n : ℕ). sum_below (n + 1) (in_result (ground s (e ∷ h)) a t) + counted (result_moved (ground s h) c (left_value (left h c))) a t) (no-calls (calls h)) ∙ back-result s h l c hr v a t q
results-move s h l _ a t q = same-sum (in_result (ground s h) a t) (calls h)
