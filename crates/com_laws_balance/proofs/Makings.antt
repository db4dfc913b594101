-- An entry makes only the next object: all that was made before stays as it was. And an open Enter is in an apartment that owns
-- its object.
use Rattle.std.proofs.Common.{subst, sym, ap, ◌∙◌, ◌⊎◌, inl, inr, eqb-true, arith}
use Rattle.std.proofs.lemmas.Bool.{false_from_ne_true}
use Rattle.std.specs.Prelude.{◌≡◌, refl, ℕ, ◌+◌, ◌≤◌, Bool, true, false, cond, ◌==◌, ◌||◌, List, [], ◌∷◌, Option, Some, None, option_map}
use Rattle.com_model.specs.declared.deeds.Deed.{Deed}
use Rattle.com_model.specs.declared.deeds.Deed.TheVariants as deed
use Rattle.com_model.specs.declared.deeds.Entry.{Entry}
use Rattle.com_model.specs.declared.scenario.Scenario.{Scenario}
use Rattle.com_model.specs.Lists.{number_or_zero}
use Rattle.com_model.specs.Tables.{is_agile_class}
use Rattle.com_model.specs.Openers.{Opens, effect, effect_on, openers}
use Rattle.com_model.specs.declared.keeps.Opener.{Opener}
use Rattle.com_model.specs.declared.keeps.Opener.TheVariants.{Pumps, Waits, Enters}
use Rattle.com_model.specs.Apartments.{next_sta, running}
use Rattle.com_model.specs.Objects.{asked_number, makes, made_or, making, objects, named, class_of, agile, owns, owner}
use Rattle.com_model.specs.declared.keeps.Making.{Making}
use Rattle.com_model.specs.Books.{made_by}
use Rattle.com_model.specs.Sight.{sight}
use Rattle.com_model.specs.Rules.{legal}
use Rattle.com_model.specs.Formed.{Formed}
use Rattle.com_model.proofs.Fines.{FineBy, next-fine}
use Rattle.com_model.proofs.Scenes.{faces, GoodOpeners}
use Rattle.com_model.proofs.Kept.{legal-kept, sight-good}
use Rattle.com_laws_balance.proofs.Counts.{Among}
use Rattle.com_laws_balance.proofs.Stacks.{among-after, opens-enter}
use Rattle.com_laws_balance.proofs.Says.{Says, next-says}

pub fine-next : (s : Scenario) (h : List Entry) (e : Entry) → Formed s → legal s (e ∷ h) → FineBy (objects h) (faces s) (next_sta h) e.deed
fine-next s h e f q = next-fine s h e.lane e.deed (sight-good s h f (legal-kept s h f q.0)) q.1

off : (x y : ℕ) → (x ≡ y → ⊥) → (x == y) ≡ false
off x y f = false_from_ne_true (x == y) (λ t. f (eqb-true x y t))

later-number : (n k o : ℕ) → k ≡ n + 1 → o ≤ n → k ≡ o → ⊥
later-number n k o e p q = omega (arith, e, p, q)

same-made : (n m y : ℕ) (d : Deed) (o : ℕ) (x : Option Making) → FineBy n m y d → o ≤ n → made_or (makes d) o x ≡ x
same-made n m y (deed.Made (Some k) (Some b) c i hr) o x f p = ap (λ (t : Bool). cond t (Some (record { object = k; apartment = b; class = asked_number c })) x) (off k o (later-number n k o f.0 p))
same-made n m y (deed.Made (Some k) None c i hr) o x f p = refl
same-made n m y (deed.Made None b c i hr) o x f p = refl
same-made n m y _ o x f p = refl

not-made : (n m y : ℕ) (d : Deed) (o : ℕ) → FineBy n m y d → o ≤ n → made_by (makes d) o ≡ false
not-made n m y (deed.Made (Some k) (Some b) c i hr) o f p = off k o (later-number n k o f.0 p)
not-made n m y (deed.Made (Some k) None c i hr) o f p = refl
not-made n m y (deed.Made None b c i hr) o f p = refl
not-made n m y _ o f p = refl

pub same-making : (s : Scenario) (h : List Entry) (e : Entry) (o : ℕ) → Formed s → legal s (e ∷ h) → o ≤ objects h → making (e ∷ h) o ≡ making h o
same-making s h e o f q p = same-made (objects h) (faces s) (next_sta h) e.deed o (making h o) (fine-next s h e f q) p

pub not-made-by : (s : Scenario) (h : List Entry) (e : Entry) (o : ℕ) → Formed s → legal s (e ∷ h) → o ≤ objects h → made_by (makes e.deed) o ≡ false
not-made-by s h e o f q p = not-made (objects h) (faces s) (next_sta h) e.deed o (fine-next s h e f q) p

pub same-named : (s : Scenario) (h : List Entry) (e : Entry) (o : ℕ) → Formed s → legal s (e ∷ h) → o ≤ objects h → named (e ∷ h) o ≡ named h o
same-named s h e o f q p = ap (λ (x : Option Making). number_or_zero (option_map (λ (m : Making). m.apartment) x)) (same-making s h e o f q p)

pub same-class : (s : Scenario) (h : List Entry) (e : Entry) (o : ℕ) → Formed s → legal s (e ∷ h) → o ≤ objects h → class_of (e ∷ h) o ≡ class_of h o
same-class s h e o f q p = ap (λ (x : Option Making). number_or_zero (option_map (λ (m : Making). m.class) x)) (same-making s h e o f q p)

pub same-agile : (s : Scenario) (h : List Entry) (e : Entry) (o : ℕ) → Formed s → legal s (e ∷ h) → o ≤ objects h → agile s (e ∷ h) o ≡ agile s h o
same-agile s h e o f q p = ap (λ (n : ℕ). is_agile_class s n) (same-class s h e o f q p)

pub same-owns : (s : Scenario) (h : List Entry) (e : Entry) (o a : ℕ) → Formed s → legal s (e ∷ h) → o ≤ objects h → owns s (e ∷ h) o a ≡ owns s h o a
same-owns s h e o a f q p = ap (λ (b : Bool). b || a == named (e ∷ h) o) (same-agile s h e o f q p) ∙ ap (λ (n : ℕ). agile s h o || a == n) (same-named s h e o f q p)

-- ---- open Enters

pub among-made : (n c a : ℕ) (os : List Opener) (k x b : ℕ) → GoodOpeners n c a os → Among (Enters k x b) os → x ≤ n
among-made n c a [] k x b g m = absurd m
among-made n c a (Enters j o y ∷ os) k x b g (inl e) = subst (λ (z : ℕ). z ≤ n) (object-of e) g.0.1
  where
    object-of : Enters j o y ≡ Enters k x b → o ≡ x
    object-of e = cc
among-made n c a (Enters j o y ∷ os) k x b g (inr m) = among-made n c a os k x b g.1 m
among-made n c a (Pumps j ∷ os) k x b g (inl e) = cc
among-made n c a (Pumps j ∷ os) k x b g (inr m) = among-made n c a os k x b g m
among-made n c a (Waits j ∷ os) k x b g (inl e) = cc
among-made n c a (Waits j ∷ os) k x b g (inr m) = among-made n c a os k x b g m

abbrev pub OwnedAt : Scenario → List Entry → ℕ → ℕ → Type 0
OwnedAt s h x a = (agile s h x ≡ true) ⊎ (a ≡ named h x)

pub owned-later : (s : Scenario) (h : List Entry) (e : Entry) (x a : ℕ) → Formed s → legal s (e ∷ h) → x ≤ objects h → OwnedAt s h x a → OwnedAt s (e ∷ h) x a
owned-later s h e x a f q p (inl r) = inl (same-agile s h e x f q p ∙ r)
owned-later s h e x a f q p (inr r) = inr (r ∙ sym (same-named s h e x f q p))

owner-owned : (b : Bool) (r n : ℕ) → (b ≡ true) ⊎ (cond b r n ≡ n)
owner-owned true r n = inl refl
owner-owned false r n = inr refl

enter-owned : (s : Scenario) (h : List Entry) (l c x a : ℕ) (d : Deed) → Says s (sight s h) l d → FineBy (objects h) (faces s) (next_sta h) d → effect d ≡ Opens (Enters c x a) → (x ≤ objects h) × OwnedAt s h x a
enter-owned s h l c x a (deed.Enter k o y t vs) z f e =
    subst (λ (b : ℕ). (x ≤ objects h) × OwnedAt s h x b) (apartment-of e)
    (subst (λ (u : ℕ). (u ≤ objects h) × OwnedAt s h u y) (object-of e) (f.0, by-owner (owner-owned (agile s h o) (number_or_zero (running s h l)) (named h o))))
  where
    object-of : Opens (Enters k o y) ≡ Opens (Enters c x a) → o ≡ x
    object-of e = cc

    apartment-of : Opens (Enters k o y) ≡ Opens (Enters c x a) → y ≡ a
    apartment-of e = cc

    by-owner : (agile s h o ≡ true) ⊎ (owner s h o l ≡ named h o) → OwnedAt s h o y
    by-owner (inl r) = inl r
    by-owner (inr r) = inr (z.1 ∙ r)
enter-owned s h l c x a (deed.Pump n) z f e = cc
enter-owned s h l c x a (deed.Out k o j m r cause bytes) z f e = cc
enter-owned s h l c x a deed.EndPump z f e = cc
enter-owned s h l c x a (deed.Back k hr v) z f e = cc
enter-owned s h l c x a (deed.Leave k hr v bytes) z f e = cc
enter-owned s h l c x a _ z f e = cc

pub open-owned : (s : Scenario) (h : List Entry) → Formed s → legal s h → (l c x a : ℕ) → Among (Enters c x a) (openers h l) → OwnedAt s h x a
open-owned s [] f q l c x a m = absurd m
open-owned s (e ∷ h) f q l c x a m =
    elim (among-after c x a (effect_on l e) (openers h l) m) as (λ _. OwnedAt s (e ∷ h) x a) [
      | inl p ↦ owned-later s h e x a f q (among-made _ _ _ (openers h l) c x a ((legal-kept s h f q.0).opens l) p) (open-owned s h f q.0 l c x a p)
      | inr p ↦ let z : (x ≤ objects h) × OwnedAt s h x a = enter-owned s h e.lane c x a e.deed (next-says s h e.lane e.deed q.1) (fine-next s h e f q) (opens-enter l c x a e p).1 in
          owned-later s h e x a f q z.0 z.1
    ]
