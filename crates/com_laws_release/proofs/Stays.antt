-- What is dead stays dead; what is dying is dead, and what had its Final.
use Rattle.std.proofs.Common.{subst, sym, ap, ◌∙◌, ◌⊎◌, inl, inr, eqb-true, arith}
use Rattle.std.proofs.lemmas.Grind.{common_steps}
use Rattle.std.specs.Prelude.{◌≡◌, refl, ℕ, zero, suc, ◌+◌, ◌≤◌, ◌<◌, Bool, true, false, cond, ◌==◌, ◌||◌, List, [], ◌∷◌, Option, Some, None, is_some}
use Rattle.com_base.specs.declared.value.RefValue.{RefValue}
use Rattle.com_base.specs.declared.value.Value.{Value}
use Rattle.com_model.specs.declared.deeds.Deed.{Deed}
use Rattle.com_model.specs.declared.deeds.Deed.TheVariants as deed
use Rattle.com_model.specs.declared.deeds.Entry.{Entry}
use Rattle.com_model.specs.declared.deeds.Route.{Route}
use Rattle.com_model.specs.declared.deeds.Route.TheVariants as route
use Rattle.com_model.specs.declared.scenario.Scenario.{Scenario}
use Rattle.com_refs_books.specs.Counting.{sum_below}
use Rattle.com_model.specs.Lists.{first, any_of, one_to}
use Rattle.com_model.specs.Tables.{lanes}
use Rattle.com_model.specs.Openers.{Opens, effect, effect_on, openers, runs}
use Rattle.com_model.specs.declared.keeps.Opener.{Opener}
use Rattle.com_model.specs.declared.keeps.Opener.TheVariants.{Pumps, Waits, Enters}
use Rattle.com_model.specs.Apartments.{home, apartments}
use Rattle.com_model.specs.Objects.{objects, makes, agile, named, owns}
use Rattle.com_model.specs.Calls.{issue, calls, admitted, target, route_of, is_direct, is_marshalled}
use Rattle.com_model.specs.Frames.{scene}
use Rattle.com_model.specs.Places.{Ground, ground, places, to_object, direct_places}
use Rattle.com_model.specs.Endings.{ending}
use Rattle.com_model.specs.declared.keeps.Ending.{Ending}
use Rattle.com_model.specs.Books.{books}
use Rattle.com_model.specs.Dying.{is_entered}
use Rattle.com_model.specs.Sight.{sight}
use Rattle.com_model.specs.Rules.{legal}
use Rattle.com_model.specs.Formed.{Formed}
use Rattle.com_model.proofs.Kept.{more-objects}
use Rattle.com_model.proofs.Onces.{named-in-range}
use Rattle.com_laws_balance.proofs.Counts.{Among, PlaceOf, Found, found-place}
use Rattle.com_laws_balance.proofs.Secures.{was-live}
use Rattle.com_laws_balance.proofs.Stacks.{among-after, opens-enter}
use Rattle.com_laws_balance.proofs.Makings.{OwnedAt, not-made-by, same-owns}
use Rattle.com_laws_balance.proofs.Says.{Says, next-says}
use Rattle.com_laws_balance.proofs.Tops.{Tops, not-enter, next-tops}
use Rattle.com_laws_balance.proofs.Bases.{some-none}
use Rattle.com_laws_balance.proofs.Steps.{same-number}
use Rattle.com_laws_balance.proofs.Pending.{apartment_of, DirectAt, pending, entered, legal-direct}
use Rattle.com_laws_balance.proofs.Answered.{issued-some, refused-ends}
use Rattle.com_laws_balance.proofs.Tests.{enter-fresh}
use Rattle.com_laws_balance.proofs.Arrivals.{WaitsTop}
use Rattle.com_laws_safety.proofs.Small.{differ}
use Rattle.com_laws_safety.proofs.Sources.{next-source}
use Rattle.com_laws_safety.proofs.Caused.{own-reply}
use Rattle.com_laws_release.proofs.Clears.{Dead}
use Rattle.com_laws_release.proofs.Arrived.{waits-top, top-over, route-is, below, direct-post, no-more, slot-place}
use Rattle.com_laws_release.proofs.Placed.{places-clear}
use Rattle.com_laws_release.proofs.Targets.{TargetAt, legal-target}
use Rattle.com_laws_release.proofs.Lives.{object-placed, legal-live}

not-both : (b : Bool) → b ≡ false → b ≡ true → ⊥
not-both b p q = cc

-- ---- what is dead is not entered

owned : (s : Scenario) (h : List Entry) (o a : ℕ) → OwnedAt s h o a → owns s h o a ≡ true
owned s h o a (inl p) = ap (λ (b : Bool). b || a == named h o) p
owned s h o a (inr p) = either (agile s h o) (a == named h o) (subst (λ (n : ℕ). (a == n) ≡ true) p (same-number a))
  where
    either : (p q : Bool) → q ≡ true → (p || q) ≡ true
    either true q e = refl
    either false q e = e

direct-refused : (r : Route) → is_direct r ≡ true → r ≡ route.Refused → ⊥
direct-refused route.Refused d e = cc
direct-refused route.Direct d e = cc
direct-refused route.Switch d e = cc
direct-refused route.Post d e = cc

none-some : (x : Option Ending) → x ≡ None → is_some x ≡ true → ⊥
none-some None e p = cc
none-some (Some y) e p = cc

-- A direct call has its target at a place in an apartment that owns it.
direct-enters : (s : Scenario) (h : List Entry) (l c gone : ℕ) → Formed s → legal s h → Dead s h gone → target h c ≡ gone → is_direct (route_of (issue h c)) ≡ true → admitted h c ≡ None → first (openers h l) ≡ Some (Waits c) → ⊥
direct-enters s h l c gone f q w same d a p =
    let k : WaitsTop (openers h l) c = waits-top (openers h l) c p in
    by-direct k.rest k.is (legal-direct s h l c k.rest f q (top-over k.rest (openers h l) c k.is) d) (legal-target s h l c k.rest f q (top-over k.rest (openers h l) c k.is))
  where
    by-direct : (os : List Opener) → openers h l ≡ Waits c ∷ os → DirectAt s h l c os → TargetAt s h l c os → ⊥
    by-direct os e x (inl r) = direct-refused (route_of (issue h c)) d r
    by-direct os e (entered y b n) (inr t) = some-none (admitted h c) y b a
    by-direct os e (pending b v u g) (inr t) =
        w.no_place (apartment_of os (home s h l)) t.reference (slot-place s h l os t.reference f q (below c os (openers h l) e) t.at) (t.is ∙ same)
        (owned s h gone (apartment_of os (home s h l)) (subst (λ (o : ℕ). OwnedAt s h o (apartment_of os (home s h l))) same u))

pub enter-alive : (s : Scenario) (h : List Entry) (l c o y : ℕ) (t : Option ℕ) (vs : List Value) (gone : ℕ) → Formed s → legal s (record { lane = l; deed = deed.Enter c o y t vs } ∷ h) → Dead s h gone → o ≡ gone → ⊥
enter-alive s h l c o y t vs gone f q w e =
    let z : Says s (sight s h) l (deed.Enter c o y t vs) = next-says s h l (deed.Enter c o y t vs) q.1 in
    by-route (next-tops s h (record { lane = l; deed = deed.Enter c o y t vs }) q) (route-is (route_of (issue h c))) (sym z.0 ∙ e)
    (own-reply s h l (deed.Enter c o y t vs) (next-source s h l (deed.Enter c o y t vs) q.1)).1
    (enter-fresh s h l c o y (deed.Enter c o y t vs) q.1 refl)
  where
    by-route : Tops (sight s h) l (deed.Enter c o y t vs) → (is_direct (route_of (issue h c)) ≡ true) ⊎ ((is_marshalled (route_of (issue h c)) ≡ true) ⊎ (route_of (issue h c) ≡ route.Refused)) → target h c ≡ gone → ending s h c ≡ None → admitted h c ≡ None → ⊥
    by-route (inl a) r same n b = not-enter (sight s h) l c o y t vs a
    by-route (inr (inl a)) (inl d) same n b = direct-enters s h l c gone f q.0 w same d b a.0
    by-route (inr (inr a)) (inl d) same n b = direct-post (route_of (issue h c)) d a.0
    by-route (inr a) (inr (inl m)) same n b = not-both ((books s h).live gone) w.not_live (subst (λ (k : ℕ). (books s h).live k ≡ true) same (legal-live s h c f q.0 m n b))
    by-route (inr a) (inr (inr r)) same n b =
        none-some (ending s h c) n ((refused-ends s h c q.0 r).1 (issued-some s h c q.0 (named-in-range s h (record { lane = l; deed = deed.Enter c o y t vs }) q).0 (no-more (calls h) c (named-in-range s h (record { lane = l; deed = deed.Enter c o y t vs }) q).1)))

opens-alive : (s : Scenario) (h : List Entry) (l c a : ℕ) (d : Deed) (gone : ℕ) → Formed s → legal s (record { lane = l; deed = d } ∷ h) → Dead s h gone → effect d ≡ Opens (Enters c gone a) → ⊥
opens-alive s h l c a (deed.Enter k o y t vs) gone f q w e = enter-alive s h l k o y t vs gone f q w (same e)
  where
    same : Opens (Enters k o y) ≡ Opens (Enters c gone a) → o ≡ gone
    same e = cc
opens-alive s h l c a (deed.Pump n) gone f q w e = cc
opens-alive s h l c a (deed.Out k o i m r cause bytes) gone f q w e = cc
opens-alive s h l c a deed.EndPump gone f q w e = cc
opens-alive s h l c a (deed.Back k hr v) gone f q w e = cc
opens-alive s h l c a (deed.Leave k hr v bytes) gone f q w e = cc
opens-alive s h l c a _ gone f q w e = cc

-- ---- an entry

pub dead-stays : (s : Scenario) (h : List Entry) (e : Entry) (o : ℕ) → Formed s → legal s (e ∷ h) → Dead s h o → Dead s (e ∷ h) o
dead-stays s h e o f q w = record {
  made = let k : objects h ≤ objects (e ∷ h) = more-objects (makes e.deed) (objects h) in let m : o ≤ objects h = w.made in omega (arith, k, m);
  not_live = differ ((books s (e ∷ h)).live o) (λ t. not-both ((books s h).live o) w.not_live (was-live s h e o (not-made-by s h e o f q w.made) t));
  no_place = λ a r p same own. places-clear s h o e f q w a r p same (sym (same-owns s h e o a f q w.made) ∙ own);
  not_open = λ l c a m. elim (among-after c o a (effect_on l e) (openers h l) m) as (λ _. ⊥) [
    | inl p ↦ w.not_open l c a p
    | inr p ↦ opens-alive s h e.lane c a e.deed o f q w (opens-enter l c o a e p).1
  ];
}

-- ---- places and bodies, counted

sum-term : (n : ℕ) (g : ℕ → ℕ) → 1 ≤ sum_below n g → (k : ℕ) × (k < n) × (1 ≤ g k)
sum-term zero g p = absurd (omega (arith, p))
sum-term (suc n) g p =
    elim (either-part (sum_below n g) (g n) p) as (λ _. (k : ℕ) × (k < suc n) × (1 ≤ g k)) [
      | inl q ↦ let r : (k : ℕ) × (k < n) × (1 ≤ g k) = sum-term n g q in let low : r.0 < n = r.1 in (r.0, omega (arith, low), r.2)
      | inr q ↦ (n, omega arith, q)
    ]
  where
    either-part : (x y : ℕ) → 1 ≤ x + y → (1 ≤ x) ⊎ (1 ≤ y)
    either-part zero y p = inr (omega (arith, p))
    either-part (suc x) y p = inl (omega arith)

term-sum : (n k : ℕ) (g : ℕ → ℕ) → k < n → 1 ≤ g k → 1 ≤ sum_below n g
term-sum zero k g h p = absurd (omega (arith, h))
term-sum (suc n) k g h p =
    elim (k == n) as (λ t. (k == n) ≡ t → 1 ≤ sum_below (suc n) g) [
      | true ↦ λ e. let q : 1 ≤ g n = subst (λ (j : ℕ). 1 ≤ g j) (eqb-true k n e) p in omega (arith, q)
      | false ↦ λ e. let q : 1 ≤ sum_below n g = term-sum n k g (grind (arith, common_steps, e, h)) p in omega (arith, q)
    ] refl

cond-one : (b : Bool) (x : ℕ) → 1 ≤ cond b x 0 → (b ≡ true) × (1 ≤ x)
cond-one true x p = (refl, p)
cond-one false x p = absurd (omega (arith, p))

one-cond : (b : Bool) (x : ℕ) → b ≡ true → 1 ≤ x → 1 ≤ cond b x 0
one-cond true x e p = p
one-cond false x e p = cc

none-is : (n : ℕ) → (1 ≤ n → ⊥) → n ≡ 0
none-is zero p = refl
none-is (suc n) p = absurd (p (omega arith))

pub zero-none : (n : ℕ) → n ≡ 0 → 1 ≤ n → ⊥
zero-none n e p = omega (arith, e, p)

pub direct-counts : (s : Scenario) (g : Ground) (h : List Entry) (a o : ℕ) (r : RefValue) → g ≡ ground s h → a < g.apartments → g.owns o a ≡ true → r.object ≡ o → PlaceOf s g (scene s h) a r → 1 ≤ direct_places s g (scene s h) o
direct-counts s g h a o r e low own same p =
    term-sum g.apartments a (λ b. cond (g.owns o b) (places s g (scene s h) b o) 0) low (one-cond (g.owns o a) (places s g (scene s h) a o) own (object-placed s g (scene s h) a o r same p))

pub dead-bare : (s : Scenario) (h : List Entry) (o : ℕ) → Dead s h o → direct_places s (ground s h) (scene s h) o ≡ 0
dead-bare s h o w = none-is (direct_places s (ground s h) (scene s h) o) (λ p. found (sum-term (apartments h) (λ a. cond (owns s h o a) (places s (ground s h) (scene s h) a o) 0) p))
  where
    found : (k : ℕ) × (k < apartments h) × (1 ≤ cond (owns s h o k) (places s (ground s h) (scene s h) k o) 0) → ⊥
    found k =
        let z : (owns s h o k.0 ≡ true) × (1 ≤ places s (ground s h) (scene s h) k.0 o) = cond-one (owns s h o k.0) (places s (ground s h) (scene s h) k.0 o) k.2 in
        let x : Found s (ground s h) (scene s h) k.0 (to_object o) = found-place s (ground s h) (scene s h) k.0 (to_object o) z.1 in
        w.no_place k.0 x.reference x.at (eqb-true x.reference.object o x.passes) z.0

pub record Runs (o : ℕ) (os : List Opener) : Type 0 where
  pub call : ℕ
  pub apartment : ℕ
  pub among : Among (Enters call o apartment) os

deeper : (o : ℕ) (x : Opener) (os : List Opener) → Runs o os → Runs o (x ∷ os)
deeper o x os r = record { call = r.call; apartment = r.apartment; among = inr r.among }

runs-among : (o : ℕ) (os : List Opener) → runs o os ≡ true → Runs o os
runs-among o [] e = cc
runs-among o (Pumps n ∷ os) e = deeper o (Pumps n) os (runs-among o os e)
runs-among o (Waits c ∷ os) e = deeper o (Waits c) os (runs-among o os e)
runs-among o (Enters c x a ∷ os) e =
    elim (x == o) as (λ t. (x == o) ≡ t → cond t true (runs o os) ≡ true → Runs o (Enters c x a ∷ os)) [
      | true ↦ λ z p. record { call = c; apartment = a; among = inl (ap (λ (y : ℕ). Enters c y a) (eqb-true x o z)) }
      | false ↦ λ z p. deeper o (Enters c x a) os (runs-among o os p)
    ] refl e

pub among-runs : (o c a : ℕ) (os : List Opener) → Among (Enters c o a) os → runs o os ≡ true
among-runs o c a [] m = absurd m
among-runs o c a (Pumps n ∷ os) (inl e) = cc
among-runs o c a (Pumps n ∷ os) (inr m) = among-runs o c a os m
among-runs o c a (Waits k ∷ os) (inl e) = cc
among-runs o c a (Waits k ∷ os) (inr m) = among-runs o c a os m
among-runs o c a (Enters k x b ∷ os) (inl e) = ap (λ (t : Bool). cond t true (runs o os)) (subst (λ (y : ℕ). (x == y) ≡ true) (same e) (same-number x))
  where
    same : Enters k x b ≡ Enters c o a → x ≡ o
    same e = cc
among-runs o c a (Enters k x b ∷ os) (inr m) = either (x == o) (runs o os) (among-runs o c a os m)
  where
    either : (t r : Bool) → r ≡ true → cond t true r ≡ true
    either true r e = refl
    either false r e = e

any-one : (test : ℕ → Bool) (xs : List ℕ) → any_of test xs ≡ true → (k : ℕ) × (test k ≡ true)
any-one test [] e = cc
any-one test (x ∷ xs) e =
    elim (test x) as (λ t. test x ≡ t → (t || any_of test xs) ≡ true → (k : ℕ) × (test k ≡ true)) [
      | true ↦ λ z p. (x, z)
      | false ↦ λ z p. any-one test xs p
    ] refl e

pub dead-not-entered : (s : Scenario) (h : List Entry) (o : ℕ) → Dead s h o → is_entered s (openers h) o ≡ false
dead-not-entered s h o w = differ (is_entered s (openers h) o) (λ p. by-lane (any-one (λ l. runs o (openers h l)) (one_to (lanes s)) p))
  where
    by-lane : (k : ℕ) × (runs o (openers h k) ≡ true) → ⊥
    by-lane k = let r : Runs o (openers h k.0) = runs-among o (openers h k.0) k.1 in w.not_open k.0 r.call r.apartment r.among
