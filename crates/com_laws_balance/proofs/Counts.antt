-- Where some place passes a test there is a reference that does, and each reference counts as a place.
use Rattle.std.proofs.Common.{subst, sym, ap, ◌⊎◌, inl, inr, eqb-true, arith}
use Rattle.std.proofs.lemmas.List.Sums.{sum_by-cons}
use Rattle.std.proofs.lemmas.Grind.{common_steps}
use Rattle.std.specs.Prelude.{◌≡◌, refl, ℕ, zero, suc, ◌+◌, ◌≤◌, ◌<◌, Bool, true, false, cond, not, ◌==◌, ◌&&◌, List, [], ◌∷◌, Option, Some, None, slice_index_or, sum_by}
use Rattle.com_base.specs.declared.value.RefValue.{RefValue}
use Rattle.com_model.specs.declared.scenario.Scenario.{Scenario}
use Rattle.com_refs_books.specs.Counting.{sum_below, count_if}
use Rattle.com_model.specs.Lists.{is_number}
use Rattle.com_model.specs.Tables.{threads, lanes}
use Rattle.com_model.specs.declared.keeps.Opener.{Opener}
use Rattle.com_model.specs.declared.keeps.Opener.TheVariants.{Pumps, Waits, Enters}
use Rattle.com_model.specs.Calls.{is_direct, route_of}
use Rattle.com_model.specs.Frames.{Scene, value_reference}
use Rattle.com_model.specs.Places.{Ground, Test, passes, in_slots, in_scripts, in_frame, in_bodies, in_links, entered_in, left_value, in_result, in_results, places_that}

abbrev pub Among : Opener → List Opener → Type 0
Among o [] = ⊥
Among o (x ∷ xs) = (x ≡ o) ⊎ Among o xs

-- A reference at a place of an apartment.
pub data PlaceOf (s : Scenario) (g : Ground) (w : Scene) (a : ℕ) (r : RefValue) : Type 0 where
  of_script : (l k : ℕ) → l ≤ threads s → is_number a (g.home l) ≡ true → slice_index_or (w.scripts l).slots k None ≡ Some r → PlaceOf s g w a r
  of_body : (l c x k : ℕ) → l ≤ lanes s → Among (Enters c x a) (g.openers l) → slice_index_or (w.bodies c).slots k None ≡ Some r → PlaceOf s g w a r
  of_link : (x k : ℕ) → x ≤ g.objects → g.named x ≡ a → slice_index_or (w.cells x).links k None ≡ Some r → PlaceOf s g w a r
  of_result : (c : ℕ) → c ≤ g.calls → is_direct (route_of (g.issue c)) ≡ true → entered_in a (g.admitted c) ≡ true → g.returned c ≡ false → value_reference (left_value (g.left c)) ≡ Some r → PlaceOf s g w a r

pub record Found (s : Scenario) (g : Ground) (w : Scene) (a : ℕ) (t : Test) : Type 0 where
  pub reference : RefValue
  pub passes : t reference ≡ true
  pub at : PlaceOf s g w a reference

-- ---- sums

either-part : (x y : ℕ) → 1 ≤ x + y → (1 ≤ x) ⊎ (1 ≤ y)
either-part zero y p = inr (omega (arith, p))
either-part (suc x) y p = inl (omega arith)

sum-term : (n : ℕ) (f : ℕ → ℕ) → 1 ≤ sum_below n f → (k : ℕ) × (k < n) × (1 ≤ f k)
sum-term zero f p = absurd (omega (arith, p))
sum-term (suc n) f p =
    elim (either-part (sum_below n f) (f n) p) as (λ _. (k : ℕ) × (k < suc n) × (1 ≤ f k)) [
      | inl q ↦ let r : (k : ℕ) × (k < n) × (1 ≤ f k) = sum-term n f q in let low : r.0 < n = r.1 in (r.0, omega (arith, low), r.2)
      | inr q ↦ (n, omega arith, q)
    ]

term-sum : (n k : ℕ) (f : ℕ → ℕ) → k < n → 1 ≤ f k → 1 ≤ sum_below n f
term-sum zero k f h p = absurd (omega (arith, h))
term-sum (suc n) k f h p =
    elim (k == n) as (λ t. (k == n) ≡ t → 1 ≤ sum_below (suc n) f) [
      | true ↦ λ e. let q : 1 ≤ f n = subst (λ (j : ℕ). 1 ≤ f j) (eqb-true k n e) p in omega (arith, q)
      | false ↦ λ e. let q : 1 ≤ sum_below n f = term-sum n k f (grind (arith, common_steps, e, h)) p in omega (arith, q)
    ] refl

cond-one : (b : Bool) (x : ℕ) → 1 ≤ cond b x 0 → (b ≡ true) × (1 ≤ x)
cond-one true x p = (refl, p)
cond-one false x p = absurd (omega (arith, p))

one-cond : (b : Bool) (x : ℕ) → b ≡ true → 1 ≤ x → 1 ≤ cond b x 0
one-cond true x e p = p
one-cond false x e p = cc

count-one : (b : Bool) → 1 ≤ count_if b → b ≡ true
count-one true p = refl
count-one false p = absurd (omega (arith, p))

one-count : (b : Bool) → b ≡ true → 1 ≤ count_if b
one-count true e = omega arith
one-count false e = cc

cons-sum : {X : Type 0} (f : X → ℕ) (x : X) (xs : List X) → 1 ≤ sum_by f (x ∷ xs) → 1 ≤ f x + sum_by f xs
cons-sum f x xs p = subst (λ (n : ℕ). 1 ≤ n) (sum_by-cons f x xs) p

sum-cons : {X : Type 0} (f : X → ℕ) (x : X) (xs : List X) → (1 ≤ f x) ⊎ (1 ≤ sum_by f xs) → 1 ≤ sum_by f (x ∷ xs)
sum-cons f x xs p = subst (λ (n : ℕ). 1 ≤ n) (sym (sum_by-cons f x xs)) (elim p as (λ _. 1 ≤ f x + sum_by f xs) [ inl q ↦ omega (arith, q) | inr q ↦ omega (arith, q) ])

same-number : (n : ℕ) → (n == n) ≡ true
same-number n = grind (arith, common_steps)

-- ---- slots

record At (t : Test) (xs : List (Option RefValue)) : Type 0 where
  index : ℕ
  reference : RefValue
  is : slice_index_or xs index None ≡ Some reference
  passes : t reference ≡ true

later : (t : Test) (x : Option RefValue) (xs : List (Option RefValue)) → At t xs → At t (x ∷ xs)
later t x xs p = record { index = suc p.index; reference = p.reference; is = p.is; passes = p.passes }

slots-at : (t : Test) (xs : List (Option RefValue)) → 1 ≤ in_slots t xs → At t xs
slots-at t [] p = absurd (omega (arith, p))
slots-at t (None ∷ xs) p = let q : 1 ≤ 0 + in_slots t xs = cons-sum (passes t) None xs p in later t None xs (slots-at t xs (omega (arith, q)))
slots-at t (Some r ∷ xs) p =
    elim (either-part (count_if (t r)) (in_slots t xs) (cons-sum (passes t) (Some r) xs p)) as (λ _. At t (Some r ∷ xs)) [
      | inl q ↦ record { index = 0; reference = r; is = refl; passes = count-one (t r) q }
      | inr q ↦ later t (Some r) xs (slots-at t xs q)
    ]

at-slots : (t : Test) (xs : List (Option RefValue)) (k : ℕ) (r : RefValue) → slice_index_or xs k None ≡ Some r → t r ≡ true → 1 ≤ in_slots t xs
at-slots t [] k r e p = cc
at-slots t (x ∷ xs) zero r e p = let q : 1 ≤ passes t x = subst (λ (y : Option RefValue). 1 ≤ passes t y) (sym e) (one-count (t r) p) in sum-cons (passes t) x xs (inl q)
at-slots t (x ∷ xs) (suc k) r e p = sum-cons (passes t) x xs (inr (at-slots t xs k r e p))

-- ---- bodies

record Open (w : Scene) (a : ℕ) (t : Test) (os : List Opener) : Type 0 where
  call : ℕ
  object : ℕ
  among : Among (Enters call object a) os
  slots : 1 ≤ in_slots t (w.bodies call).slots

deeper : (w : Scene) (a : ℕ) (t : Test) (o : Opener) (os : List Opener) → Open w a t os → Open w a t (o ∷ os)
deeper w a t o os p = record { call = p.call; object = p.object; among = inr p.among; slots = p.slots }

open-at : (w : Scene) (a : ℕ) (t : Test) (os : List Opener) → 1 ≤ sum_by (in_frame w a t) os → Open w a t os
open-at w a t [] p = absurd (omega (arith, p))
open-at w a t (Enters c x b ∷ os) p =
    elim (either-part (cond (b == a) (in_slots t (w.bodies c).slots) 0) (sum_by (in_frame w a t) os) (cons-sum (in_frame w a t) (Enters c x b) os p)) as (λ _. Open w a t (Enters c x b ∷ os)) [
      | inl q ↦ let z : ((b == a) ≡ true) × (1 ≤ in_slots t (w.bodies c).slots) = cond-one (b == a) (in_slots t (w.bodies c).slots) q in
          record { call = c; object = x; among = inl (ap (λ (n : ℕ). Enters c x n) (eqb-true b a z.0)); slots = z.1 }
      | inr q ↦ deeper w a t (Enters c x b) os (open-at w a t os q)
    ]
open-at w a t (Pumps n ∷ os) p = let q : 1 ≤ 0 + sum_by (in_frame w a t) os = cons-sum (in_frame w a t) (Pumps n) os p in deeper w a t (Pumps n) os (open-at w a t os (omega (arith, q)))
open-at w a t (Waits c ∷ os) p = let q : 1 ≤ 0 + sum_by (in_frame w a t) os = cons-sum (in_frame w a t) (Waits c) os p in deeper w a t (Waits c) os (open-at w a t os (omega (arith, q)))

at-open : (w : Scene) (a : ℕ) (t : Test) (os : List Opener) (c x : ℕ) → Among (Enters c x a) os → 1 ≤ in_slots t (w.bodies c).slots → 1 ≤ sum_by (in_frame w a t) os
at-open w a t [] c x m p = absurd m
at-open w a t (o ∷ os) c x (inl e) p =
    let q : 1 ≤ in_frame w a t o = subst (λ (y : Opener). 1 ≤ in_frame w a t y) (sym e) (one-cond (a == a) (in_slots t (w.bodies c).slots) (same-number a) p) in sum-cons (in_frame w a t) o os (inl q)
at-open w a t (o ∷ os) c x (inr m) p = sum-cons (in_frame w a t) o os (inr (at-open w a t os c x m p))

-- ---- all places

both-true : (p q : Bool) → p ≡ true → q ≡ true → (p && q) ≡ true
both-true true q e f = f
both-true false q e f = cc

both-parts : (p q : Bool) → (p && q) ≡ true → (p ≡ true) × (q ≡ true)
both-parts true q e = (refl, e)
both-parts false q e = cc

not-true : (p : Bool) → not p ≡ true → p ≡ false
not-true true e = cc
not-true false e = refl

true-not : (p : Bool) → p ≡ false → not p ≡ true
true-not true e = cc
true-not false e = refl

passes-at : (t : Test) (x : Option RefValue) → 1 ≤ passes t x → (r : RefValue) × (x ≡ Some r) × (t r ≡ true)
passes-at t None p = absurd (omega (arith, p))
passes-at t (Some r) p = (r, refl, count-one (t r) p)

scripts-found : (s : Scenario) (g : Ground) (w : Scene) (a : ℕ) (t : Test) → 1 ≤ in_scripts s g w a t → Found s g w a t
scripts-found s g w a t p =
    let k : (l : ℕ) × (l < threads s + 1) × (1 ≤ cond (is_number a (g.home l)) (in_slots t (w.scripts l).slots) 0) = sum-term (threads s + 1) (λ l. cond (is_number a (g.home l)) (in_slots t (w.scripts l).slots) 0) p in
    let low : k.0 < threads s + 1 = k.1 in
    let z : (is_number a (g.home k.0) ≡ true) × (1 ≤ in_slots t (w.scripts k.0).slots) = cond-one (is_number a (g.home k.0)) (in_slots t (w.scripts k.0).slots) k.2 in
    let x : At t (w.scripts k.0).slots = slots-at t (w.scripts k.0).slots z.1 in
    record { reference = x.reference; passes = x.passes; at = of_script k.0 x.index (omega (arith, low)) z.0 x.is }

bodies-found : (s : Scenario) (g : Ground) (w : Scene) (a : ℕ) (t : Test) → 1 ≤ in_bodies s g w a t → Found s g w a t
bodies-found s g w a t p =
    let k : (l : ℕ) × (l < lanes s + 1) × (1 ≤ sum_by (in_frame w a t) (g.openers l)) = sum-term (lanes s + 1) (λ l. sum_by (in_frame w a t) (g.openers l)) p in
    let low : k.0 < lanes s + 1 = k.1 in
    let o : Open w a t (g.openers k.0) = open-at w a t (g.openers k.0) k.2 in
    let x : At t (w.bodies o.call).slots = slots-at t (w.bodies o.call).slots o.slots in
    record { reference = x.reference; passes = x.passes; at = of_body k.0 o.call o.object x.index (omega (arith, low)) o.among x.is }

links-found : (s : Scenario) (g : Ground) (w : Scene) (a : ℕ) (t : Test) → 1 ≤ in_links g w a t → Found s g w a t
links-found s g w a t p =
    let k : (x : ℕ) × (x < g.objects + 1) × (1 ≤ cond (g.named x == a) (in_slots t (w.cells x).links) 0) = sum-term (g.objects + 1) (λ x. cond (g.named x == a) (in_slots t (w.cells x).links) 0) p in
    let low : k.0 < g.objects + 1 = k.1 in
    let z : ((g.named k.0 == a) ≡ true) × (1 ≤ in_slots t (w.cells k.0).links) = cond-one (g.named k.0 == a) (in_slots t (w.cells k.0).links) k.2 in
    let x : At t (w.cells k.0).links = slots-at t (w.cells k.0).links z.1 in
    record { reference = x.reference; passes = x.passes; at = of_link k.0 x.index (omega (arith, low)) (eqb-true (g.named k.0) a z.0) x.is }

results-found : (s : Scenario) (g : Ground) (w : Scene) (a : ℕ) (t : Test) → 1 ≤ in_results g a t → Found s g w a t
results-found s g w a t p =
    let k : (c : ℕ) × (c < g.calls + 1) × (1 ≤ in_result g a t c) = sum-term (g.calls + 1) (in_result g a t) p in
    let c : ℕ = k.0 in
    let low : k.0 < g.calls + 1 = k.1 in
    let z : ((is_direct (route_of (g.issue k.0)) && (entered_in a (g.admitted k.0) && not (g.returned k.0))) ≡ true) × (1 ≤ passes t (value_reference (left_value (g.left k.0)))) = cond-one _ _ k.2 in
    let u : (is_direct (route_of (g.issue k.0)) ≡ true) × ((entered_in a (g.admitted k.0) && not (g.returned k.0)) ≡ true) = both-parts _ _ z.0 in
    let v : (entered_in a (g.admitted k.0) ≡ true) × (not (g.returned k.0) ≡ true) = both-parts _ _ u.1 in
    let x : (r : RefValue) × (value_reference (left_value (g.left k.0)) ≡ Some r) × (t r ≡ true) = passes-at t _ z.1 in
    record { reference = x.0; passes = x.2; at = of_result k.0 (omega (arith, low)) u.0 v.0 (not-true _ v.1) x.1 }

pub found-place : (s : Scenario) (g : Ground) (w : Scene) (a : ℕ) (t : Test) → 1 ≤ places_that s g w a t → Found s g w a t
found-place s g w a t p =
    elim (either-part (in_scripts s g w a t + in_bodies s g w a t + in_links g w a t) (in_results g a t) p) as (λ _. Found s g w a t) [
      | inr q ↦ results-found s g w a t q
      | inl q ↦ elim (either-part (in_scripts s g w a t + in_bodies s g w a t) (in_links g w a t) q) as (λ _. Found s g w a t) [
        | inr q ↦ links-found s g w a t q
        | inl q ↦ elim (either-part (in_scripts s g w a t) (in_bodies s g w a t) q) as (λ _. Found s g w a t) [
          | inl q ↦ scripts-found s g w a t q
          | inr q ↦ bodies-found s g w a t q
        ]
      ]
    ]

pub place-counts : (s : Scenario) (g : Ground) (w : Scene) (a : ℕ) (t : Test) (r : RefValue) → PlaceOf s g w a r → t r ≡ true → 1 ≤ places_that s g w a t
place-counts s g w a t r (of_script l k h n e) p =
    let q : 1 ≤ in_scripts s g w a t = term-sum (threads s + 1) l (λ l. cond (is_number a (g.home l)) (in_slots t (w.scripts l).slots) 0) (omega (arith, h)) (one-cond (is_number a (g.home l)) (in_slots t (w.scripts l).slots) n (at-slots t (w.scripts l).slots k r e p)) in
    omega (arith, q)
place-counts s g w a t r (of_body l c x k h m e) p =
    let q : 1 ≤ in_bodies s g w a t = term-sum (lanes s + 1) l (λ l. sum_by (in_frame w a t) (g.openers l)) (omega (arith, h)) (at-open w a t (g.openers l) c x m (at-slots t (w.bodies c).slots k r e p)) in
    omega (arith, q)
place-counts s g w a t r (of_link x k h n e) p =
    let q : 1 ≤ in_links g w a t = term-sum (g.objects + 1) x (λ x. cond (g.named x == a) (in_slots t (w.cells x).links) 0) (omega (arith, h)) (one-cond (g.named x == a) (in_slots t (w.cells x).links) (subst (λ (b : ℕ). (g.named x == b) ≡ true) n (same-number (g.named x))) (at-slots t (w.cells x).links k r e p)) in
    omega (arith, q)
place-counts s g w a t r (of_result c h d m n e) p =
    let q : 1 ≤ in_results g a t = term-sum (g.calls + 1) c (in_result g a t) (omega (arith, h)) (one-cond (is_direct (route_of (g.issue c)) && (entered_in a (g.admitted c) && not (g.returned c))) (passes t (value_reference (left_value (g.left c)))) (both-true (is_direct (route_of (g.issue c))) (entered_in a (g.admitted c) && not (g.returned c)) d (both-true (entered_in a (g.admitted c)) (not (g.returned c)) m (true-not (g.returned c) n)))
    (subst (λ (x : Option RefValue). 1 ≤ passes t x) (sym e) (one-count (t r) p))) in
    omega (arith, q)
