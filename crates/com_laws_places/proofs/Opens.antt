-- Whoever acts in a lane of a legal history stands: a body's call is open once, in the apartment that its admission names.
use Rattle.std.proofs.Common.{subst, sym, ap, ◌∙◌, inl, inr, eqb-true, arith}
use Rattle.std.proofs.lemmas.Bool.{false_from_ne_true}
use Rattle.std.proofs.lemmas.List.Sums.{sum_by-cons}
use Rattle.std.proofs.lemmas.Grind.{common_steps}
use Rattle.std.specs.Prelude.{◌≡◌, refl, ℕ, ◌+◌, ◌≤◌, ◌<◌, true, ◌==◌, List, [], ◌∷◌, Option, Some, None}
use Rattle.com_refs_books.specs.Counting.{sum_below, count_if}
use Rattle.com_refs_books.proofs.Sums.{sum-changed, sum-nothing}
use Rattle.com_model.specs.declared.deeds.Entry.{Entry}
use Rattle.com_model.specs.declared.scenario.Scenario.{Scenario}
use Rattle.com_model.specs.declared.keeps.Opener.{Opener}
use Rattle.com_model.specs.declared.keeps.Opener.TheVariants.{Pumps, Waits, Enters}
use Rattle.com_model.specs.declared.keeps.Admission.{Admission}
use Rattle.com_model.specs.Tables.{LaneSort, Thread, Host, Pool, NoLane, lane_sort, threads, lanes}
use Rattle.com_model.specs.Openers.{openers}
use Rattle.com_model.specs.Objects.{objects}
use Rattle.com_model.specs.Calls.{admitted}
use Rattle.com_model.specs.Frames.{actor}
use Rattle.com_model.specs.Places.{ground}
use Rattle.com_model.specs.Rules.{legal}
use Rattle.com_model.specs.Formed.{Formed}
use Rattle.com_model.proofs.Scenes.{actor-good}
use Rattle.com_laws_balance.proofs.Counts.{Among}
use Rattle.com_laws_balance.proofs.Stacks.{admission_in, open-admitted}
use Rattle.com_laws_balance.proofs.Bases.{open-made}
use Rattle.com_laws_balance.proofs.Answered.{lane-low}
use Rattle.com_laws_balance.proofs.Below.{Distinct, legal-distinct}
use Rattle.com_laws_places.specs.Moves.{entered_where}
use Rattle.com_laws_places.proofs.Frames.{enters_of, open_of, InApartment, OpenOnce}
use Rattle.com_laws_places.proofs.Writes.{BodyStands, Stands}

same-lane : (c k l a b : ℕ) (x : Option Admission) → x ≡ Some (admission_in c k a) → x ≡ Some (admission_in c l b) → (k ≡ l) × (a ≡ b)
same-lane c k l a b x p q = (ap (lane_at 0) (sym p ∙ q), ap (apartment_at 0) (sym p ∙ q))
  where
    lane_at : ℕ → Option Admission → ℕ
    lane_at n None = n
    lane_at n (Some y) = y.lane

    apartment_at : ℕ → Option Admission → ℕ
    apartment_at n None = n
    apartment_at n (Some y) = y.apartment

-- How often a call is open in a lane.
open-no-more : (c : ℕ) (o : Opener) (os : List Opener) → open_of c (o ∷ os) ≡ enters_of c o + open_of c os
open-no-more c o os = sum_by-cons (enters_of c) o os

pub not-open : (c : ℕ) (os : List Opener) → ((x a : ℕ) → Among (Enters c x a) os → ⊥) → open_of c os ≡ 0
not-open c [] f = refl
not-open c (Enters d x a ∷ os) f =
    let rest : open_of c os ≡ 0 = not-open c os (λ y b m. f y b (inr m)) in
    let here : count_if (d == c) ≡ 0 = ap count_if (false_from_ne_true (d == c) (λ e. f x a (inl (ap (λ (k : ℕ). Enters k x a) (eqb-true d c e))))) in
    omega (arith, rest, here, open-no-more c (Enters d x a) os)
not-open c (Pumps n ∷ os) f =
    let rest : open_of c os ≡ 0 = not-open c os (λ y b m. f y b (inr m)) in
    open-no-more c (Pumps n) os ∙ omega (arith, rest)
not-open c (Waits n ∷ os) f =
    let rest : open_of c os ≡ 0 = not-open c os (λ y b m. f y b (inr m)) in
    open-no-more c (Waits n) os ∙ omega (arith, rest)

same-call : (c : ℕ) → count_if (c == c) ≡ 1
same-call c = ap count_if (same-number c)
  where
    same-number : (n : ℕ) → (n == n) ≡ true
    same-number n = grind (arith, common_steps)

enters-call : (c d x y a b : ℕ) → Enters d y b ≡ Enters c x a → d ≡ c
enters-call c d x y a b e = cc

open-one : (c x a : ℕ) (os : List Opener) → Distinct os → Among (Enters c x a) os → open_of c os ≡ 1
open-one c x a [] d m = absurd m
open-one c x a (Enters k y b ∷ os) d (inl e) =
    let k-is-c : k ≡ c = enters-call c k x y a b e in
    let here : count_if (k == c) ≡ 1 = subst (λ (j : ℕ). count_if (j == c) ≡ 1) (sym k-is-c) (same-call c) in
    let rest : open_of c os ≡ 0 = not-open c os (λ z f m. d.0 z f (subst (λ (j : ℕ). Among (Enters j z f) os) (sym k-is-c) m)) in
    omega (arith, here, rest, open-no-more c (Enters k y b) os)
open-one c x a (Enters k y b ∷ os) d (inr m) =
    let here : count_if (k == c) ≡ 0 = ap count_if (false_from_ne_true (k == c) (λ e. d.0 x a (subst (λ (j : ℕ). Among (Enters j x a) os) (sym (eqb-true k c e)) m))) in
    let rest : open_of c os ≡ 1 = open-one c x a os d.1 m in
    omega (arith, here, rest, open-no-more c (Enters k y b) os)
open-one c x a (Pumps n ∷ os) d (inl e) = cc
open-one c x a (Pumps n ∷ os) d (inr m) =
    let rest : open_of c os ≡ 1 = open-one c x a os d m in
    open-no-more c (Pumps n) os ∙ omega (arith, rest)
open-one c x a (Waits n ∷ os) d (inl e) = cc
open-one c x a (Waits n ∷ os) d (inr m) =
    let rest : open_of c os ≡ 1 = open-one c x a os d m in
    open-no-more c (Waits n) os ∙ omega (arith, rest)

pub all-in : (c b : ℕ) (os : List Opener) → ((x a : ℕ) → Among (Enters c x a) os → a ≡ b) → InApartment c b os
all-in c b [] f = tt
all-in c b (Enters d x a ∷ os) f = (λ e. f x a (inl (ap (λ (k : ℕ). Enters k x a) e)), all-in c b os (λ y z m. f y z (inr m)))
all-in c b (Pumps n ∷ os) f = all-in c b os (λ y z m. f y z (inr m))
all-in c b (Waits n ∷ os) f = all-in c b os (λ y z m. f y z (inr m))

one-of : (n l : ℕ) (f : ℕ → ℕ) → l < n → f l ≡ 1 → ((j : ℕ) → (j ≡ l → ⊥) → f j ≡ 0) → sum_below n f ≡ 1
one-of n l f h p q =
    let changed : sum_below n f + 0 ≡ sum_below n (λ j. 0) + f l = sum-changed n l (λ j. 0) f h (λ j k. sym (q j k)) in
    let none : sum_below n (λ j. 0) ≡ 0 = sum-nothing n (λ j. 0) (λ k. refl) in
    omega (arith, changed, none, p)

pub open-once : (s : Scenario) (h : List Entry) (l c o a : ℕ) → legal s h → Among (Enters c o a) (openers h l) → OpenOnce s (ground s h) c a
open-once s h l c o a q m =
    let low : l ≤ lanes s = lane-low s h l (Enters c o a) q m in record {
      once = one-of (lanes s + 1) l (λ j. open_of c (openers h j)) (omega (arith, low)) (open-one c o a (openers h l) (legal-distinct s h l q) m)
          (λ j n. not-open c (openers h j) (λ x b z. n (same-lane c j l b a (admitted h c) (open-admitted s h q j c x b z) (open-admitted s h q l c o a m)).0));
      there = λ j n. all-in c a (openers h j) (λ x b z. (same-lane c j l b a (admitted h c) (open-admitted s h q j c x b z) (open-admitted s h q l c o a m)).1);
    }

pub body-stands : (s : Scenario) (h : List Entry) (l c o a : ℕ) → Formed s → legal s h → Among (Enters c o a) (openers h l) → BodyStands s (ground s h) c o
body-stands s h l c o a f q m =
    let made : o ≤ objects h = open-made s h f q l c o a m in record {
      apartment = a;
      entered = ap (λ (x : Option Admission). entered_where x) (open-admitted s h q l c o a m);
      once = open-once s h l c o a q m;
      made = omega (arith, made);
    }

-- Who stands in a lane with some of its openers.
pub actor-stands : (s : Scenario) (h : List Entry) (l : ℕ) (os : List Opener) → Formed s → legal s h → ((o : Opener) → Among o os → Among o (openers h l)) → Stands s (ground s h) (actor (lane_sort s l) l os)
actor-stands s h l os f q m = by-sort (lane_sort s l) refl os m
  where
    script-stands : lane_sort s l ≡ Thread → l < threads s + 1
    script-stands e = let low : l ≤ threads s = actor-good s 0 0 0 l Thread [] e tt in omega (arith, low)

    by-sort : (sort : LaneSort) → lane_sort s l ≡ sort → (os : List Opener) → ((o : Opener) → Among o os → Among o (openers h l)) → Stands s (ground s h) (actor sort l os)
    by-sort Thread e [] m = script-stands e
    by-sort Host e [] m = tt
    by-sort Pool e [] m = tt
    by-sort NoLane e [] m = tt
    by-sort sort e (Enters c o a ∷ os) m = body-stands s h l c o a f q (m (Enters c o a) (inl refl))
    by-sort sort e (Pumps n ∷ os) m = tt
    by-sort sort e (Waits n ∷ os) m = tt
