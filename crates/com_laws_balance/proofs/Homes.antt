-- What an entry does to a lane's home.
use Rattle.std.proofs.Common.{subst, sym, ap, ◌∙◌, ◌⊎◌, inl, inr, eqb-true}
use Rattle.std.specs.Prelude.{◌≡◌, refl, ℕ, zero, suc, Bool, true, false, cond, ◌==◌, List, [], ◌∷◌, Option, Some, None}
use Rattle.com_base.specs.declared.value.RefValue.{RefValue}
use Rattle.com_body.specs.declared.operands.Asked.TheVariants as asked
use Rattle.com_model.specs.declared.deeds.Deed.{Deed}
use Rattle.com_model.specs.declared.deeds.Deed.TheVariants as deed
use Rattle.com_model.specs.declared.deeds.Entry.{Entry}
use Rattle.com_model.specs.declared.scenario.Scenario.{Scenario}
use Rattle.com_model.specs.Answers.{is_S_OK}
use Rattle.com_model.specs.Tables.{LaneSort, Thread, Host, Pool, NoLane, lane_sort}
use Rattle.com_model.specs.Openers.{Effect, Opens, Closes, Keeps, opened}
use Rattle.com_model.specs.declared.keeps.Opener.{Opener}
use Rattle.com_model.specs.Apartments.{HomeEffect, Remains, home_effect, home_after, thread_home, home_by_sort, home}
use Rattle.com_model.specs.Calls.{admission_or}
use Rattle.com_model.specs.declared.keeps.Admission.{Admission}
use Rattle.com_model.specs.Frames.{taken_in, reference}
use Rattle.com_model.specs.Sight.{Sight}
use Rattle.com_laws_balance.proofs.Carries.{HeldBy}
use Rattle.com_laws_balance.proofs.Counts.{Among}
use Rattle.com_laws_balance.proofs.Says.{Says}

pub among-any : (o : Opener) (e : Effect) (os : List Opener) → Among o (opened e os) → Among o os ⊎ (e ≡ Opens o)
among-any o (Opens x) os (inl p) = inr (ap Opens p)
among-any o (Opens x) os (inr p) = inl p
among-any o (Closes k) [] p = inl p
among-any o (Closes k) (x ∷ os) p = inl (inr p)
among-any o Keeps os p = inl p

pub home-remains : (s : Scenario) (h : List Entry) (e : Entry) (l : ℕ) → home_effect e.deed ≡ Remains → home s (e ∷ h) l ≡ home s h l
home-remains s h e l p =
    elim (e.lane == l) as (λ t. home_by_sort (lane_sort s l) (home_after (cond t (home_effect e.deed) Remains) (thread_home h l)) ≡ home s h l) [
      | true ↦ ap (λ (x : HomeEffect). home_by_sort (lane_sort s l) (home_after x (thread_home h l))) p
      | false ↦ refl
    ]

pub home-other : (s : Scenario) (h : List Entry) (e : Entry) (l : ℕ) → (e.lane == l) ≡ false → home s (e ∷ h) l ≡ home s h l
home-other s h e l p = ap (λ (t : Bool). home_by_sort (lane_sort s l) (home_after (cond t (home_effect e.deed) Remains) (thread_home h l))) p

pub home-own : (s : Scenario) (h : List Entry) (e : Entry) (l : ℕ) → (e.lane == l) ≡ true → home s (e ∷ h) l ≡ home_by_sort (lane_sort s l) (home_after (home_effect e.deed) (thread_home h l))
home-own s h e l p = ap (λ (t : Bool). home_by_sort (lane_sort s l) (home_after (cond t (home_effect e.deed) Remains) (thread_home h l))) p

sort-some : (sort : LaneSort) (a : ℕ) (x : Option ℕ) → home_by_sort sort (Some a) ≡ None → home_by_sort sort x ≡ None
sort-some Thread a x e = cc
sort-some Host a x e = cc
sort-some Pool a x e = cc
sort-some NoLane a x e = refl

sort-twice : (sort : LaneSort) (x : Option ℕ) → home_by_sort sort (home_by_sort sort x) ≡ None → home_by_sort sort x ≡ None
sort-twice Thread x e = e
sort-twice Host x e = e
sort-twice Pool x e = e
sort-twice NoLane x e = refl

-- The deed after which a lane may have no home, though it had one.
abbrev pub EndsHome : Deed → Type 0
EndsHome (deed.Uninit a zero) = Unit {0}
EndsHome _ = ⊥

own-home : (s : Scenario) (v : Sight) (sort : LaneSort) (l : ℕ) (d : Deed) (x : Option ℕ) → v.home l ≡ home_by_sort sort x → Says s v l d → home_by_sort sort (home_after (home_effect d) x) ≡ None → (home_by_sort sort x ≡ None) ⊎ EndsHome d
own-home s v sort l (deed.Init m a hr) x w z e = inl (sort-some sort a x e)
own-home s v sort l (deed.Uninit a zero) x w z e = inr tt
own-home s v sort l (deed.Uninit a (suc n)) x w z e = inl (sort-twice sort x (subst (λ (y : Option ℕ). home_by_sort sort y ≡ None) (z ∙ w) e))
own-home s v sort l _ x w z e = inl e

-- A lane that has no home after an entry had none before, or ended it by the entry.
pub home-ends : (s : Scenario) (h : List Entry) (e : Entry) (l : ℕ) (v : Sight) → v.home ≡ home s h → Says s v e.lane e.deed → home s (e ∷ h) l ≡ None → (home s h l ≡ None) ⊎ ((e.lane ≡ l) × EndsHome e.deed)
home-ends s h e l v w z p =
    elim (e.lane == l) as (λ t. (e.lane == l) ≡ t → (home s h l ≡ None) ⊎ ((e.lane ≡ l) × EndsHome e.deed)) [
      | true ↦ λ q. let u : e.lane ≡ l = eqb-true e.lane l q in
          elim (own-home s v (lane_sort s l) l e.deed (thread_home h l) (ap (λ (f : ℕ → Option ℕ). f l) w) (subst (λ (k : ℕ). Says s v k e.deed) u z) (sym (home-own s h e l q) ∙ p)) as (λ _. (home s h l ≡ None) ⊎ ((e.lane ≡ l) × EndsHome e.deed)) [ inl y ↦ inl y | inr y ↦ inr (u, y) ]
      | false ↦ λ q. inl (sym (home-other s h e l q) ∙ p)
    ] refl

-- ---- what a deed takes

pub held-both : (P Q R : RefValue → Type 0) (x : Option RefValue) → ((r : RefValue) → P r → Q r → R r) → HeldBy P x → HeldBy Q x → HeldBy R x
held-both P Q R None f p q = tt
held-both P Q R (Some r) f p q = f r p q

pub held-all : (P : RefValue → Type 0) (x : Option RefValue) → ((r : RefValue) → P r) → HeldBy P x
held-all P None f = tt
held-all P (Some r) f = f r

pub taken-remains : (d : Deed) → HeldBy (λ r. home_effect d ≡ Remains) (taken_in d)
taken-remains (deed.Made (Some o) a k (asked.Number i) hr) = refl
taken-remains (deed.Made (Some o) a k (asked.Guid g) hr) = tt
taken-remains (deed.Made None a k i hr) = tt
taken-remains (deed.Query (Some o) (asked.Number i) hr) = held-all (λ r. Remains ≡ Remains) _ (λ r. refl)
taken-remains (deed.Query (Some o) (asked.Guid g) hr) = tt
taken-remains (deed.Query None i hr) = tt
taken-remains (deed.Unmarshal p held refs hr) = held-all (λ r. Remains ≡ Remains) held (λ r. refl)
taken-remains (deed.Get g held refs hr) = held-all (λ r. Remains ≡ Remains) held (λ r. refl)
taken-remains _ = tt

query-taken : (P : Type 0) (o i : ℕ) (t : Bool) → (t ≡ true → P) → HeldBy (λ r. P) (cond t (Some (reference o i)) None)
query-taken P o i true f = f refl
query-taken P o i false f = tt

pub taken-homed : (s : Scenario) (v : Sight) (l : ℕ) (d : Deed) → Says s v l d → HeldBy (λ r. v.home l ≡ None → ⊥) (taken_in d)
taken-homed s v l (deed.Made (Some o) (Some a) k (asked.Number i) hr) z = z
taken-homed s v l (deed.Made (Some o) (Some a) k (asked.Guid g) hr) z = tt
taken-homed s v l (deed.Made (Some o) None k i hr) z = absurd z
taken-homed s v l (deed.Made None a k i hr) z = tt
taken-homed s v l (deed.Query (Some o) (asked.Number i) hr) z = query-taken (v.home l ≡ None → ⊥) o i (is_S_OK hr) z
taken-homed s v l (deed.Query (Some o) (asked.Guid g) hr) z = tt
taken-homed s v l (deed.Query None i hr) z = tt
taken-homed s v l (deed.Unmarshal (Some p) held refs hr) z = held-all (λ r. v.home l ≡ None → ⊥) held (λ r. z.0)
taken-homed s v l (deed.Unmarshal None held refs hr) z = subst (λ (x : Option RefValue). HeldBy (λ r. v.home l ≡ None → ⊥) x) (sym z) tt
taken-homed s v l (deed.Get g (Some r) refs hr) z = z.0
taken-homed s v l (deed.Get g None refs hr) z = tt
taken-homed s v l _ z = tt

pub admitted-none : (x : Option Admission) (c : ℕ) (y : Option Admission) → admission_or x c y ≡ None → y ≡ None
admitted-none None c y e = e
admitted-none (Some a) c y e = elim (a.call == c) as (λ t. cond t (Some a) y ≡ None → y ≡ None) [ true ↦ λ q. cc | false ↦ λ q. q ] e
