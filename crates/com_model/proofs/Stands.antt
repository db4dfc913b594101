-- A state that stands for a history stands for the longer one after a deed: the parts of apartments and the clock.
use Rattle.std.proofs.Common.{subst, ap, ◌∙◌, arith}
use Rattle.std.proofs.lemmas.Grind.{common_steps}
use Rattle.std.specs.Prelude.{◌≡◌, refl, ℕ, zero, suc, ◌+◌, ◌≤◌, ◌<◌, Bool, true, false, cond, ◌||◌, ◌&&◌, ◌==◌, List, [], ◌∷◌, length, Option, Some, None, slice_index_or}
use Rattle.com_model.specs.declared.deeds.Deed.{Deed}
use Rattle.com_model.specs.declared.deeds.Entry.{Entry}
use Rattle.com_model.specs.declared.scenario.Scenario.{Scenario}
use Rattle.com_model.specs.Lists.{each_from, is_member, is_number}
use Rattle.com_model.specs.Apartments.{with_last, makes_sta, ends_sta}
use Rattle.com_model.specs.Clock.{ticked, clock}
use Rattle.com_model.specs.State.{State, ApartmentsStand}
use Rattle.com_model.proofs.Rowed.{after_rowed}

pub row-from : {X : Type 0} (f : ℕ → X → X) (n : ℕ) (xs : List X) (k : ℕ) (d : X) → k < length xs → slice_index_or (each_from f n xs) k d ≡ f (n + k) (slice_index_or xs k d)
row-from f n [] k d h = grind (arith, common_steps)
row-from f n (x ∷ xs) zero d h = grind (arith, common_steps)
row-from f n (x ∷ xs) (suc k) d h = let ih : slice_index_or (each_from f (n + 1) xs) k d ≡ f (n + 1 + k) (slice_index_or xs k d) = row-from f (n + 1) xs k d (omega (arith, h)) in let e : n + 1 + k ≡ n + suc k = omega arith in subst (λ (m : ℕ). slice_index_or (each_from f (n + 1) xs) k d ≡ f m (slice_index_or xs k d)) e ih

pub row-of : {X : Type 0} (f : ℕ → X → X) (xs : List X) (n k : ℕ) (d y : X) → length xs ≡ n + 1 → k ≤ n → slice_index_or xs k d ≡ y → slice_index_or (each_from f 0 xs) k d ≡ f k y
row-of f xs n k d y p q e = let z : 0 + k ≡ k = omega arith in subst (λ (x : _). slice_index_or (each_from f 0 xs) k d ≡ f k x) e (subst (λ (m : ℕ). slice_index_or (each_from f 0 xs) k d ≡ f m (slice_index_or xs k d)) z (row-from f 0 xs k d (omega (arith, p, q))))

pub rows-from : {X : Type 0} (f : ℕ → X → X) (n : ℕ) (xs : List X) (k : ℕ) → length xs ≡ k → length (each_from f n xs) ≡ k
rows-from f n [] k p = p
rows-from f n (x ∷ xs) k p = grind (arith, common_steps, rows-from f (n + 1) xs (length xs) refl)

or-last : (p q r t : Bool) → t ≡ (q || r) → (p || t) ≡ (q || (p || r))
or-last true true r t e = refl
or-last true false r t e = refl
or-last false true r t e = e
or-last false false r t e = e

pub member-last : (a : ℕ) (xs : List ℕ) (o : Option ℕ) → is_member a (with_last xs o) ≡ (is_number a o || is_member a xs)
member-last a xs None = refl
member-last a [] (Some y) = refl
member-last a (x ∷ xs) (Some y) = or-last (a == x) (a == y) (is_member a xs) _ (member-last a xs (Some y))

pub made-row : (a : ℕ) (b : Bool) (xs : List ℕ) (o : Option ℕ) (m : Bool) → is_member a xs ≡ m → is_member a (cond b (with_last xs o) xs) ≡ ((b && is_number a o) || m)
made-row a true xs o m e = member-last a xs o ∙ ap (λ (x : Bool). is_number a o || x) e
made-row a false xs o m e = e

pub apartments-after : (s : Scenario) (st : State) (h : List Entry) (l : ℕ) (d : Deed) → ApartmentsStand st h → ApartmentsStand (after_rowed s st l d) (record { lane = l; deed = d } ∷ h)
apartments-after s st h l d p =
    record {
      stas = ap (λ (x : List ℕ). with_last x (makes_sta d)) p.stas;
      ended = λ a. member-last a st.ended (ends_sta d) ∙ ap (λ (x : Bool). is_number a (ends_sta d) || x) (p.ended a);
    }

pub clock-after : (s : Scenario) (st : State) (h : List Entry) (l : ℕ) (d : Deed) → st.clock ≡ clock h → (after_rowed s st l d).clock ≡ clock (record { lane = l; deed = d } ∷ h)
clock-after s st h l d p = ap (ticked d) p
