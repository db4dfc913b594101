-- Open Enters: each is the one that the call's admission names, in an apartment that owns its object.
use Rattle.std.proofs.Common.{subst, ap, ◌∙◌, ◌⊎◌, inl, inr, eqb-true, arith}
use Rattle.std.proofs.lemmas.Bool.{false_from_ne_true}
use Rattle.std.proofs.lemmas.Grind.{common_steps}
use Rattle.std.specs.Prelude.{◌≡◌, refl, ℕ, Bool, true, false, cond, ◌==◌, List, [], ◌∷◌, Option, Some, None, is_none}
use Rattle.com_model.specs.declared.deeds.Deed.{Deed}
use Rattle.com_model.specs.declared.deeds.Deed.TheVariants as deed
use Rattle.com_model.specs.declared.deeds.Entry.{Entry}
use Rattle.com_model.specs.declared.scenario.Scenario.{Scenario}
use Rattle.com_model.specs.Openers.{Effect, Opens, Closes, Keeps, effect, effect_on, opened, openers}
use Rattle.com_model.specs.declared.keeps.Opener.{Opener}
use Rattle.com_model.specs.declared.keeps.Opener.TheVariants.{Enters}
use Rattle.com_model.specs.Calls.{admits, admission_or, admitted}
use Rattle.com_model.specs.declared.keeps.Admission.{Admission}
use Rattle.com_model.specs.Waiting.{postings}
use Rattle.com_model.specs.Sight.{sight}
use Rattle.com_model.specs.Rules.{next, legal}
use Rattle.com_model.proofs.Comes.{Comes, sort_of, next-comes}
use Rattle.com_laws_balance.proofs.Counts.{Among}

abbrev pub admission_in : ℕ → ℕ → ℕ → Admission
admission_in c l a = record { call = c; lane = l; apartment = a }

-- An Enter among the openers after an effect was there before, or is the one that the effect opens.
pub among-after : (c x a : ℕ) (e : Effect) (os : List Opener) → Among (Enters c x a) (opened e os) → Among (Enters c x a) os ⊎ (e ≡ Opens (Enters c x a))
among-after c x a (Opens o) os (inl p) = inr (ap Opens p)
among-after c x a (Opens o) os (inr p) = inl p
among-after c x a (Closes k) [] p = inl p
among-after c x a (Closes k) (o ∷ os) p = inl (inr p)
among-after c x a Keeps os p = inl p

admission-new : (c l a : ℕ) (x : Option Admission) → admission_or (Some (admission_in c l a)) c x ≡ Some (admission_in c l a)
admission-new c l a x = ap (λ (b : Bool). cond b (Some (admission_in c l a)) x) (same-number c)
  where
    same-number : (n : ℕ) → (n == n) ≡ true
    same-number n = grind (arith, common_steps)

admission-old : (d c l a : ℕ) (x : Option Admission) (y : Admission) → (d ≡ c → ⊥) → x ≡ Some y → admission_or (Some (admission_in d l a)) c x ≡ Some y
admission-old d c l a x y n e = ap (λ (b : Bool). cond b (Some (admission_in d l a)) x) (false_from_ne_true (d == c) (λ t. n (eqb-true d c t))) ∙ e

none-some : (x : Option Admission) (y : Admission) → is_none x ≡ true → x ≡ Some y → ⊥
none-some None y p e = cc
none-some (Some z) y p e = cc

-- Each entry keeps what was admitted.
pub still-admitted : (s : Scenario) (h : List Entry) (l c : ℕ) (d : Deed) (y : Admission) → next s h l ≡ Some d → admitted h c ≡ Some y → admission_or (admits l d) c (admitted h c) ≡ Some y
still-admitted s h l c d y p e = by-deed d (next-comes s h l d p)
  where
    by-deed : (d : Deed) → Comes s (sight s h) (postings h) (openers h l) (sort_of d) → admission_or (admits l d) c (admitted h c) ≡ Some y
    by-deed (deed.Enter k o a t vs) z = admission-old k c l a (admitted h c) y (λ q. none-some (admitted h k) y z.0 (ap (admitted h) q ∙ e)) e
    by-deed _ z = e

opens-one : (c k x y a b : ℕ) → Opens (Enters k y b) ≡ Opens (Enters c x a) → (c ≡ k) × (a ≡ b)
opens-one c k x y a b e = (cc, cc)

-- The Enter that an effect opens is the deed's.
pub opens-enter : (l k x a : ℕ) (e : Entry) → effect_on l e ≡ Opens (Enters k x a) → (e.lane ≡ l) × (effect e.deed ≡ Opens (Enters k x a))
opens-enter l k x a e p =
    elim (e.lane == l) as (λ t. (e.lane == l) ≡ t → cond t (effect e.deed) Keeps ≡ Opens (Enters k x a) → (e.lane ≡ l) × (effect e.deed ≡ Opens (Enters k x a))) [
      | true ↦ λ t q. (eqb-true e.lane l t, q)
      | false ↦ λ t q. cc
    ] refl p

enter-admits : (l c x a : ℕ) (d : Deed) (y : Option Admission) → effect d ≡ Opens (Enters c x a) → admission_or (admits l d) c y ≡ Some (admission_in c l a)
enter-admits l c x a (deed.Enter k o b t vs) y e =
    let p : (c ≡ k) × (a ≡ b) = opens-one c k x o a b e in
    subst (λ (n : ℕ). admission_or (Some (admission_in k l n)) c y ≡ Some (admission_in c l a)) p.1
    (subst (λ (n : ℕ). admission_or (Some (admission_in n l a)) c y ≡ Some (admission_in c l a)) p.0 (admission-new c l a y))
enter-admits l c x a (deed.Pump n) y e = cc
enter-admits l c x a (deed.Out k o j z r cause bytes) y e = cc
enter-admits l c x a deed.EndPump y e = cc
enter-admits l c x a (deed.Back k hr v) y e = cc
enter-admits l c x a (deed.Leave k hr v bytes) y e = cc
enter-admits l c x a _ y e = cc

pub open-admitted : (s : Scenario) (h : List Entry) → legal s h → (l c x a : ℕ) → Among (Enters c x a) (openers h l) → admitted h c ≡ Some (admission_in c l a)
open-admitted s [] q l c x a m = absurd m
open-admitted s (e ∷ h) q l c x a m =
    elim (among-after c x a (effect_on l e) (openers h l) m) as (λ _. admitted (e ∷ h) c ≡ Some (admission_in c l a)) [
      | inl p ↦ still-admitted s h e.lane c e.deed (admission_in c l a) q.1 (open-admitted s h q.0 l c x a p)
      | inr p ↦ let z : (e.lane ≡ l) × (effect e.deed ≡ Opens (Enters c x a)) = opens-enter l c x a e p in
          subst (λ (k : ℕ). admission_or (admits e.lane e.deed) c (admitted h c) ≡ Some (admission_in c k a)) z.0 (enter-admits e.lane c x a e.deed (admitted h c) z.1)
    ]
