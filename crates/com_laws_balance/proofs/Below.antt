-- Who stands below a call that waits keeps its slots, whatever comes above.
use Rattle.std.proofs.Common.{subst, sym, ap, ◌∙◌, inl, inr, eqb-true}
use Rattle.std.specs.Prelude.{◌≡◌, refl, ℕ, true, false, ◌==◌, List, [], ◌∷◌, Option, Some, None, is_none}
use Rattle.com_body.specs.declared.frame.Outcome.{Outcome}
use Rattle.com_model.specs.declared.deeds.Deed.{Deed}
use Rattle.com_model.specs.declared.deeds.Deed.TheVariants as deed
use Rattle.com_model.specs.declared.deeds.Entry.{Entry}
use Rattle.com_model.specs.declared.scenario.Scenario.{Scenario}
use Rattle.com_model.specs.Lists.{without_first}
use Rattle.com_model.specs.Tables.{LaneSort, lane_sort}
use Rattle.com_model.specs.Openers.{Effect, Opens, Closes, Keeps, effect_on, opened, openers}
use Rattle.com_model.specs.declared.keeps.Opener.{Opener}
use Rattle.com_model.specs.declared.keeps.Opener.TheVariants.{Pumps, Waits, Enters}
use Rattle.com_model.specs.Apartments.{Remains, home_effect}
use Rattle.com_model.specs.Objects.{class_of}
use Rattle.com_model.specs.Calls.{issue, admitted}
use Rattle.com_model.specs.declared.keeps.Admission.{Admission}
use Rattle.com_model.specs.Frames.{scene, Actor, Body, Script, Nobody, actor, actor_in}
use Rattle.com_model.specs.Rules.{next, legal}
use Rattle.com_model.specs.Formed.{Formed}
use Rattle.com_model.proofs.Comes.{next-comes}
use Rattle.com_laws_balance.proofs.Moves.{acting-is}
use Rattle.com_laws_balance.proofs.Counts.{Among}
use Rattle.com_laws_balance.proofs.Stacks.{admission_in, opens-enter, open-admitted}
use Rattle.com_laws_balance.proofs.Tops.{next-tops}
use Rattle.com_laws_balance.proofs.Bases.{actor-is, top-among, some-none, not-empty, remains-by}
use Rattle.com_laws_balance.proofs.Steps.{legal-base}
use Rattle.com_laws_balance.proofs.Arguments.{slots_of, Apart, StillBy, OtherThan}
use Rattle.com_laws_balance.proofs.Directs.{Over, over-among, over-below, still-slots, other-slots}
use Rattle.com_laws_balance.proofs.Answered.{TopEnter, leave-top}
use Rattle.com_laws_balance.proofs.Tests.{enter-fresh}

-- ---- the open bodies of a lane are of different calls

abbrev pub Distinct : List Opener → Type 0
Distinct [] = Unit {0}
Distinct (Enters c o a ∷ os) = ((x b : ℕ) → Among (Enters c x b) os → ⊥) × Distinct os
Distinct (_ ∷ os) = Distinct os

distinct-rest : (os : List Opener) → Distinct os → Distinct (without_first os)
distinct-rest [] p = tt
distinct-rest (Enters c o a ∷ os) p = p.1
distinct-rest (Pumps n ∷ os) p = p
distinct-rest (Waits c ∷ os) p = p

opened-distinct : (e : Effect) (os : List Opener) → ((c x a : ℕ) → e ≡ Opens (Enters c x a) → (y b : ℕ) → Among (Enters c y b) os → ⊥) → Distinct os → Distinct (opened e os)
opened-distinct (Opens (Enters c x a)) os f p = (f c x a refl, p)
opened-distinct (Opens (Pumps n)) os f p = p
opened-distinct (Opens (Waits c)) os f p = p
opened-distinct (Closes k) os f p = distinct-rest os p
opened-distinct Keeps os f p = p

new-body : (s : Scenario) (h : List Entry) (e : Entry) (l c x a y b : ℕ) → legal s (e ∷ h) → effect_on l e ≡ Opens (Enters c x a) → Among (Enters c y b) (openers h l) → ⊥
new-body s h e l c x a y b q z m =
    some-none (admitted h c) (admission_in c l b) (open-admitted s h q.0 l c y b m) (enter-fresh s h e.lane c x a e.deed q.1 (opens-enter l c x a e z).1)

pub legal-distinct : (s : Scenario) (h : List Entry) (l : ℕ) → legal s h → Distinct (openers h l)
legal-distinct s [] l q = tt
legal-distinct s (e ∷ h) l q = opened-distinct (effect_on l e) (openers h l) (λ c x a z y b m. new-body s h e l c x a y b q z m) (legal-distinct s h l q.0)

-- ---- who stands below is not who stands on top

apart-nobody : (x : Actor) → Apart x Nobody
apart-nobody (Body c o) = tt
apart-nobody (Script l) = tt
apart-nobody Nobody = tt

nobody-apart : (x : Actor) → Apart Nobody x
nobody-apart (Body c o) = tt
nobody-apart (Script l) = tt
nobody-apart Nobody = tt

over-rest : (c k x b : ℕ) (os rest : List Opener) → Over c os (Enters k x b ∷ rest) → Over c os rest
over-rest c k x b os rest (inl p) = absurd (not-waits p.0)
  where
    not-waits : Enters k x b ≡ Waits c → ⊥
    not-waits e = cc
over-rest c k x b os rest (inr p) = p

-- A body on top is of another call than each body below the call that waits.
top-other : (c k x b : ℕ) (os rest : List Opener) → Over c os (Enters k x b ∷ rest) → Distinct (Enters k x b ∷ rest) → (j y a : ℕ) → Among (Enters j y a) os → j ≡ k → ⊥
top-other c k x b os rest m d j y a n same =
    d.0 y a (subst (λ (i : ℕ). Among (Enters i y a) rest) same (over-below c os rest (Enters j y a) (over-rest c k x b os rest m) n))

no-over : (c : ℕ) (os xs : List Opener) → Over c os xs → xs ≡ [] → ⊥
no-over c os xs m e = subst (Over c os) e m

body-apart : (sort : LaneSort) (l c k v x b : ℕ) (os xs rest : List Opener) → Over c os xs → Distinct xs → xs ≡ Enters k x b ∷ rest → Apart (actor sort l os) (Body k v)
body-apart sort l c k v x b os xs rest m d e =
    actor-is (λ y. Apart y (Body k v)) sort l os
    (λ j o a more p. top-other c k x b os rest (subst (Over c os) e m) (subst Distinct e d) j o a (top-among j o a os more p))
    (λ p. tt) tt

apart-over : (sort : LaneSort) (l c : ℕ) (os xs : List Opener) → Over c os xs → Distinct xs → Apart (actor sort l os) (actor sort l xs)
apart-over sort l c os xs m d =
    actor-is (λ y. Apart (actor sort l os) y) sort l xs
    (λ k x b rest e. body-apart sort l c k x x b os xs rest m d e)
    (λ e. absurd (no-over c os xs m e))
    (apart-nobody (actor sort l os))

-- ---- what comes is for another

some-not-none : (x : Option Admission) (y : Admission) → x ≡ Some y → is_none x ≡ true → ⊥
some-not-none None y e p = cc
some-not-none (Some z) y e p = cc

apart-entered : (s : Scenario) (h : List Entry) (l k v : ℕ) (os : List Opener) → legal s h → ((o : Opener) → Among o os → Among o (openers h l)) → is_none (admitted h k) ≡ true → Apart (actor (lane_sort s l) l os) (Body k v)
apart-entered s h l k v os q f n =
    actor-is (λ x. Apart x (Body k v)) (lane_sort s l) l os
    (λ c o a rest p e. some-not-none (admitted h k) (admission_in c l a) (ap (admitted h) (sym e) ∙ open-admitted s h q l c o a (f (Enters c o a) (top-among c o a os rest p))) n)
    (λ p. tt) tt

other-below : (s : Scenario) (h : List Entry) (e : Entry) (x b : Actor) (d : Deed) → legal s (e ∷ h) → e.deed ≡ d → ((k v : ℕ) → is_none (admitted h k) ≡ true → Apart x (Body k v)) → ((k v : ℕ) → TopEnter (openers h e.lane) k → Apart x (Body k v)) → Apart x b → home_effect d ≡ Remains → OtherThan x b e.lane d
other-below s h e x b (deed.Enter c o a t vs) q z f g p r = f c o (next-comes s h e.lane (deed.Enter c o a t vs) (subst (λ (y : Deed). next s h e.lane ≡ Some y) z q.1)).0
other-below s h e x b (deed.Leave c hr v bytes) q z f g p r = g c 0 (leave-top s h e.lane c (deed.Leave c hr v bytes) hr v bytes (subst (λ (y : Deed). next s h e.lane ≡ Some y) z q.1) refl)
other-below s h e x b (deed.Back c hr v) q z f g p r = p
other-below s h e x b deed.EndPump q z f g p r = p
other-below s h e x b (deed.Uninit a n) q z f g p r = cc
other-below s h e x b _ q z f g p r = tt

still-apart : (x u : Actor) (r : Option Outcome) (d : Deed) → Apart x u → StillBy x u r d
still-apart x u None d p = tt
still-apart x u (Some y) d p = inl p

own-below : (s : Scenario) (h : List Entry) (e : Entry) (c : ℕ) (os : List Opener) → Formed s → legal s (e ∷ h) → Over c os (openers h e.lane) → Over c os (openers (e ∷ h) e.lane) → slots_of (actor (lane_sort s e.lane) e.lane os) (scene s (e ∷ h)) ≡ slots_of (actor (lane_sort s e.lane) e.lane os) (scene s h)
own-below s h e c os f q m n =
    let x : Actor = actor (lane_sort s e.lane) e.lane os in
    let d : Distinct (openers h e.lane) = legal-distinct s h e.lane q.0 in
    still-slots s h e x f q
    (still-apart x _ _ e.deed (acting-is (λ a. Apart x a) s (class_of h) (issue h) (scene s h) (actor_in s h e.lane) e.deed (apart-over (lane_sort s e.lane) e.lane c os (openers h e.lane) m d) (apart-nobody x)))
    (other-below s h e x (actor_in s (e ∷ h) e.lane) e.deed q refl
    (λ k v z. apart-entered s h e.lane k v os q.0 (λ o y. over-below c os (openers h e.lane) o m y) z)
    (λ k v t. body-apart (lane_sort s e.lane) e.lane c k v t.object t.apartment os (openers h e.lane) t.rest m d t.is)
    (apart-over (lane_sort s e.lane) e.lane c os (openers (e ∷ h) e.lane) n (legal-distinct s (e ∷ h) e.lane q))
    (remains-by s h f q.0 (legal-base s h f q.0) e.lane e.deed (next-tops s h e q) (not-empty (Waits c) (openers h e.lane) (over-among c os (openers h e.lane) m))))

-- Who stands below a call that waits before and after an entry keeps its slots.
pub below-stays : (s : Scenario) (h : List Entry) (e : Entry) (l c : ℕ) (os : List Opener) → Formed s → legal s (e ∷ h) → Over c os (openers h l) → Over c os (openers (e ∷ h) l) → slots_of (actor (lane_sort s l) l os) (scene s (e ∷ h)) ≡ slots_of (actor (lane_sort s l) l os) (scene s h)
below-stays s h e l c os f q m n =
    elim (e.lane == l) as (λ t. (e.lane == l) ≡ t → slots_of (actor (lane_sort s l) l os) (scene s (e ∷ h)) ≡ slots_of (actor (lane_sort s l) l os) (scene s h)) [
      | true ↦ λ z. subst (λ (j : ℕ). Over c os (openers h j) → Over c os (openers (e ∷ h) j) → slots_of (actor (lane_sort s j) j os) (scene s (e ∷ h)) ≡ slots_of (actor (lane_sort s j) j os) (scene s h)) (eqb-true e.lane l z) (own-below s h e c os f q) m n
      | false ↦ λ z. other-slots s h e l os f q z (λ o y. over-below c os (openers h l) o m y)
    ] refl
