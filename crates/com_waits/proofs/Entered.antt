-- A call that was entered and has no answer stands open where it was entered.
use Rattle.std.proofs.Common.{subst, sym, ap, inl, inr, eqb-true}
use Rattle.std.specs.Prelude.{◌≡◌, refl, ℕ, Bool, true, false, cond, ◌==◌, List, [], ◌∷◌, Option, Some, None}
use Rattle.com_base.specs.declared.value.Value.{Value}
use Rattle.com_model.specs.declared.deeds.Deed.{Deed}
use Rattle.com_model.specs.declared.deeds.Deed.TheVariants as deed
use Rattle.com_model.specs.declared.deeds.Entry.{Entry}
use Rattle.com_model.specs.declared.keeps.Admission.{Admission}
use Rattle.com_model.specs.declared.keeps.Ending.{Ending}
use Rattle.com_model.specs.declared.keeps.Opener.{Opener}
use Rattle.com_model.specs.declared.keeps.Opener.TheVariants.{Enters}
use Rattle.com_model.specs.declared.scenario.Scenario.{Scenario}
use Rattle.com_model.specs.Lists.{or_else, where_true}
use Rattle.com_model.specs.Openers.{Closer, EndsPump, Backs, Leaves, Effect, Opens, Closes, Keeps, effect, opened, matches, fits, openers}
use Rattle.com_model.specs.Objects.{named}
use Rattle.com_model.specs.Calls.{admits, admission_or, admitted, issue, target}
use Rattle.com_model.specs.Endings.{ends, end_effect, filtered, can_be_cut, ending}
use Rattle.com_model.specs.Rules.{legal}
use Rattle.com_model.proofs.Stacks.{next-fits}
use Rattle.com_laws_safety.proofs.Small.{same-number}
use Rattle.com_laws_balance.proofs.Counts.{Among}
use Rattle.com_laws_balance.proofs.Directs.{openers-own, openers-other}

pub record OpenAt (h : List Entry) (l c : ℕ) : Type 0 where
  pub object : ℕ
  pub apartment : ℕ
  pub among : Among (Enters c object apartment) (openers h l)

pub before-none : (x y : Option Ending) → or_else x y ≡ None → (x ≡ None) × (y ≡ None)
before-none None y e = (refl, e)
before-none (Some z) y e = cc

kept-enter : (c o a : ℕ) (x : Effect) (os : List Opener) → fits x os → (x ≡ Closes (Leaves c) → ⊥) → Among (Enters c o a) os → Among (Enters c o a) (opened x os)
kept-enter c o a (Opens y) os f n m = inr m
kept-enter c o a Keeps os f n m = m
kept-enter c o a (Closes k) [] f n m = m
kept-enter c o a (Closes k) (y ∷ os) f n (inr m) = m
kept-enter c o a (Closes k) (y ∷ os) f n (inl e) = absurd (closes k (subst (matches k) e f) n)
  where
    closes : (k : Closer) → matches k (Enters c o a) → (Closes k ≡ Closes (Leaves c) → ⊥) → ⊥
    closes EndsPump p n = p
    closes (Backs j) p n = p
    closes (Leaves j) p n = n (ap (λ (i : ℕ). Closes (Leaves i)) p)

ended-by : (b : Bool) (x : Ending) → b ≡ true → where_true b x ≡ None → ⊥
ended-by true x e p = cc
ended-by false x e p = cc

-- An entry that closes the body gives the answer.
leave-ends : (f : ℕ → Bool) (d : Deed) (c o a : ℕ) (t : Bool) → effect d ≡ Closes (Leaves c) → ends (end_effect f d) c o a t ≡ None → ⊥
leave-ends f (deed.Leave k hr v bytes) c o a t e p = ended-by (k == c) _ (subst (λ (j : ℕ). (k == j) ≡ true) (same e) (same-number k)) p
  where
    same : Closes (Leaves k) ≡ Closes (Leaves c) → k ≡ c
    same e = cc
leave-ends f (deed.Out k x i m r cause bytes) c o a t e p = cc
leave-ends f (deed.Enter k x y z vs) c o a t e p = cc
leave-ends f (deed.Pump n) c o a t e p = cc
leave-ends f deed.EndPump c o a t e p = cc
leave-ends f (deed.Back k hr v) c o a t e p = cc
leave-ends f _ c o a t e p = cc

open-later : (s : Scenario) (h : List Entry) (e : Entry) (l c : ℕ) → legal s (e ∷ h) → ending s (e ∷ h) c ≡ None → OpenAt h l c → OpenAt (e ∷ h) l c
open-later s h e l c q n k = record {
  object = k.object;
  apartment = k.apartment;
  among = elim (e.lane == l) as (λ t. (e.lane == l) ≡ t → Among (Enters c k.object k.apartment) (openers (e ∷ h) l)) [
    | true ↦ λ z. subst (λ (j : ℕ). Among (Enters c k.object k.apartment) (openers h j) → Among (Enters c k.object k.apartment) (openers (e ∷ h) j)) (eqb-true e.lane l z)
        (λ u. subst (λ (os : List Opener). Among (Enters c k.object k.apartment) os) (sym (openers-own h e))
        (kept-enter c k.object k.apartment (effect e.deed) (openers h e.lane) (next-fits s h e.lane e.deed q.1)
        (λ y. leave-ends (filtered s h) e.deed c (target h c) (named h (target h c)) (can_be_cut (issue h c) (admitted h c)) y (before-none (ending s h c) _ n).1) u)) k.among
    | false ↦ λ z. subst (λ (os : List Opener). Among (Enters c k.object k.apartment) os) (sym (openers-other h e l z)) k.among
  ] refl;
}

same-some : (x y : Admission) → Some x ≡ Some y → x ≡ y
same-some x y e = cc

enter-opens : (h : List Entry) (l k o a c : ℕ) (t : Option ℕ) (vs : List Value) → k ≡ c → OpenAt (record { lane = l; deed = deed.Enter k o a t vs } ∷ h) l c
enter-opens h l k o a c t vs e = record {
  object = o;
  apartment = a;
  among = subst (λ (os : List Opener). Among (Enters c o a) os) (sym (openers-own h (record { lane = l; deed = deed.Enter k o a t vs }))) (inl (ap (λ (j : ℕ). Enters j o a) e));
}

-- Either an entry enters the call, or it was entered before.
either-entered : (s : Scenario) (h : List Entry) (l c : ℕ) (d : Deed) (x : Admission) → (admitted h c ≡ Some x → OpenAt (record { lane = l; deed = d } ∷ h) x.lane c) → admission_or (admits l d) c (admitted h c) ≡ Some x → OpenAt (record { lane = l; deed = d } ∷ h) x.lane c
either-entered s h l c (deed.Enter k o a t vs) x f e = by-test (k == c) refl e
  where
    by-test : (b : Bool) → (k == c) ≡ b → cond b (Some (record { call = k; lane = l; apartment = a })) (admitted h c) ≡ Some x → OpenAt (record { lane = l; deed = deed.Enter k o a t vs } ∷ h) x.lane c
    by-test true z e =
        subst (λ (y : Admission). OpenAt (record { lane = l; deed = deed.Enter k o a t vs } ∷ h) y.lane c) (same-some (record { call = k; lane = l; apartment = a }) x e)
        (enter-opens h l k o a c t vs (eqb-true k c z))
    by-test false z e = f e
either-entered s h l c _ x f e = f e

pub legal-entered : (s : Scenario) (h : List Entry) (c : ℕ) (x : Admission) → legal s h → admitted h c ≡ Some x → ending s h c ≡ None → OpenAt h x.lane c
legal-entered s [] c x p e n = cc
legal-entered s (e ∷ h) c x p z n =
    either-entered s h e.lane c e.deed x (λ y. open-later s h e x.lane c p n (legal-entered s h c x p.0 y (before-none (ending s h c) _ n).0)) z
