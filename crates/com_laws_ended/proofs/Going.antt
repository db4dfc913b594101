-- A legal history that has ended goes no further.
use Rattle.std.proofs.Common.{ap, subst, sym, ◌∙◌, eqb-true, arith}
use Rattle.std.proofs.lemmas.Grind.{common_steps}
use Rattle.std.specs.Prelude.{◌≡◌, refl, ℕ, zero, suc, ◌+◌, ◌≤◌, ◌<◌, Bool, true, false, cond, not, ◌==◌, ◌&&◌, ◌||◌, nat_le, List, [], ◌∷◌, ◌++◌, Option, Some, None, is_some, is_none, option_map, length}
use Rattle.com_model.specs.declared.counts.Ended.{Ended}
use Rattle.com_model.specs.declared.counts.Ended.TheVariants as ended
use Rattle.com_model.specs.declared.deeds.Deed.{Deed}
use Rattle.com_model.specs.declared.deeds.Deed.TheVariants as deed
use Rattle.com_model.specs.declared.deeds.Entry.{Entry}
use Rattle.com_model.specs.declared.scenario.Scenario.{Scenario}
use Rattle.com_model.specs.Lists.{any_of, one_to}
use Rattle.com_model.specs.Tables.{LaneSort, Thread, Host, Pool, NoLane, lane_sort, lanes}
use Rattle.com_model.specs.Sight.{Sight, sight}
use Rattle.com_model.specs.Rules.{lane_next, can_step, no_lane_can, tick_time, ticks, next_by, next, legal}
use Rattle.com_model.specs.Ends.{finished_by, stuck_by, finished, stuck, ended_as, limit}
use Rattle.com_model.specs.Safe.{EachEntry}
use Rattle.com_model.specs.Formed.{Formed}
use Rattle.com_model.proofs.Lanes.{lane-within}
use Rattle.com_model.proofs.Kept.{sight-good, legal-kept}
use Rattle.com_laws_ended.specs.Going.{GoesOn}
use Rattle.com_laws_ended.proofs.Resting.{all-rest}
use Rattle.com_laws_ended.proofs.Ticking.{ticks-unfinished}

-- ---- no lane can step, and no time is waited for

any-last : (test : ℕ → Bool) (xs : List ℕ) (y : ℕ) → any_of test (xs ++ y ∷ []) ≡ false → (any_of test xs ≡ false) × (test y ≡ false)
any-last test [] y e = (refl, off (test y) e)
  where
    off : (b : Bool) → (b || false) ≡ false → b ≡ false
    off true e = cc
    off false e = refl
any-last test (x ∷ xs) y e = onto (test x) (any-last test xs y (rest (test x) _ e)) e
  where
    rest : (a b : Bool) → (a || b) ≡ false → b ≡ false
    rest true b e = cc
    rest false b e = e

    onto : (a : Bool) → (any_of test xs ≡ false) × (test y ≡ false) → (a || any_of test (xs ++ y ∷ [])) ≡ false → ((a || any_of test xs) ≡ false) × (test y ≡ false)
    onto true r e = cc
    onto false r e = r

any-one : (test : ℕ → Bool) (n l : ℕ) → any_of test (one_to n) ≡ false → 1 ≤ l → l ≤ n → test l ≡ false
any-one test zero l e p q = absurd (omega (arith, p, q))
any-one test (suc n) l e p q =
    let r : (any_of test (one_to n) ≡ false) × (test (suc n) ≡ false) = any-last test (one_to n) (suc n) e in
    elim (nat_le l n) as (λ t. nat_le l n ≡ t → test l ≡ false) [
      | true ↦ λ z. any-one test n l r.0 p (grind (arith, common_steps, z))
      | false ↦ λ z. let same : l ≡ suc n = grind (arith, common_steps, z, q) in ap test same ∙ r.1
    ] refl

not-true : (b : Bool) → not b ≡ true → b ≡ false
not-true true e = cc
not-true false e = refl

some-none : {X : Type 0} (o : Option X) (x : X) → o ≡ Some x → is_some o ≡ false → ⊥
some-none None x e p = cc
some-none (Some y) x e p = cc

none-some : {X : Type 0} (x : X) → None ≡ Some x → ⊥
none-some x e = cc

no-tick : (s : Scenario) (v : Sight) (d : Deed) → tick_time v ≡ None → ticks s v ≡ Some d → ⊥
no-tick s v d t e = none-some d (sym (by-test (no_lane_can s v) (tick_time v) t) ∙ e)
  where
    by-test : (b : Bool) (x : Option ℕ) → x ≡ None → cond b (option_map (λ t. deed.Tick t) x) None ≡ None
    by-test true x p = ap (option_map (λ t. deed.Tick t)) p
    by-test false x p = refl

-- A lane's next entry is one that it can make.
lane-step : (s : Scenario) (v : Sight) (sort : LaneSort) (l : ℕ) (d : Deed) → tick_time v ≡ None → next_by s v sort l ≡ Some d → lane_next s v l ≡ Some d
lane-step s v Thread l d t e = e
lane-step s v Host l d t e = e
lane-step s v Pool l d t e = e
lane-step s v NoLane l d t e = absurd (by-test (l == 0) e)
  where
    by-test : (b : Bool) → cond b (ticks s v) None ≡ Some d → ⊥
    by-test true e = no-tick s v d t e
    by-test false e = none-some d e

at-rest : (s : Scenario) (h : List Entry) (l : ℕ) (d : Deed) → no_lane_can s (sight s h) ≡ true → tick_time (sight s h) ≡ None → next s h l ≡ Some d → ⊥
at-rest s h zero d n t e = no-tick s (sight s h) d t e
at-rest s h (suc l) d n t e =
    some-none (lane_next s (sight s h) (suc l)) d (lane-step s (sight s h) (lane_sort s (suc l)) (suc l) d t e)
    (any-one (can_step s (sight s h)) (lanes s) (suc l) (not-true (any_of (can_step s (sight s h)) (one_to (lanes s))) n) (omega arith) (lane-within s h (suc l) d e))

-- ---- finished, or stuck

no-time : (s : Scenario) (h : List Entry) (x : Option ℕ) → legal s h → tick_time (sight s h) ≡ x → finished_by s (sight s h) ≡ true → x ≡ None
no-time s h None q e p = refl
no-time s h (Some t) q e p = absurd (ticks-unfinished s h t q e p)

finished-rests : (s : Scenario) (h : List Entry) (l : ℕ) (d : Deed) → Formed s → legal s h → finished s h ≡ true → next s h l ≡ Some d → ⊥
finished-rests s h l d f q p e = at-rest s h l d (all-rest s (sight s h) (sight-good s h f (legal-kept s h f q)) p) (no-time s h (tick_time (sight s h)) q refl p) e

and-left : (p q : Bool) → (p && q) ≡ true → p ≡ true
and-left true q e = refl
and-left false q e = cc

and-right : (p q : Bool) → (p && q) ≡ true → q ≡ true
and-right true q e = e
and-right false q e = cc

none-of : (o : Option ℕ) → is_none o ≡ true → o ≡ None
none-of None e = refl
none-of (Some x) e = cc

stuck-rests : (s : Scenario) (h : List Entry) (l : ℕ) (d : Deed) → stuck s h ≡ true → next s h l ≡ Some d → ⊥
stuck-rests s h l d p e =
    let v : Sight = sight s h in
    let r : (is_none (tick_time v) && not (finished_by s v)) ≡ true = and-right (no_lane_can s v) (is_none (tick_time v) && not (finished_by s v)) p in
    at-rest s h l d (and-left (no_lane_can s v) (is_none (tick_time v) && not (finished_by s v)) p) (none-of (tick_time v) (and-left (is_none (tick_time v)) (not (finished_by s v)) r)) e

no-next : (o : Option Deed) → ((d : Deed) → o ≡ Some d → ⊥) → o ≡ None
no-next None f = refl
no-next (Some d) f = absurd (f d refl)

pub finished-none : (s : Scenario) (h : List Entry) (l : ℕ) → Formed s → legal s h → finished s h ≡ true → next s h l ≡ None
finished-none s h l f q p = no-next (next s h l) (λ d e. finished-rests s h l d f q p e)

pub stuck-none : (s : Scenario) (h : List Entry) (l : ℕ) → stuck s h ≡ true → next s h l ≡ None
stuck-none s h l p = no-next (next s h l) (λ d e. stuck-rests s h l d p e)

-- ---- every entry

by-tests : (a f t b : Bool) → (f ≡ true → ⊥) → (t ≡ true → ⊥) → (b ≡ true → ⊥) → cond a (cond f (Some ended.Ok) (cond t (Some ended.Stuck) (cond b (Some ended.Budget) None))) None ≡ None
by-tests false f t b p q r = refl
by-tests true true t b p q r = absurd (p refl)
by-tests true false true b p q r = absurd (q refl)
by-tests true false false true p q r = absurd (r refl)
by-tests true false false false p q r = refl

at-limit : (n m : ℕ) → n < m → (n == m) ≡ true → ⊥
at-limit n m p e = let z : n ≡ m = eqb-true n m e in omega (arith, p, z)

pub goes-on : (s : Scenario) (h : List Entry) (e : Entry) → Formed s → legal s (e ∷ h) → length h < limit s → GoesOn s h e.lane e.deed
goes-on s h e f q p = (
  p,
  by-tests (nat_le (length h) (limit s)) (finished_by s (sight s h)) (stuck_by s (sight s h)) (length h == limit s)
      (λ z. finished-rests s h e.lane e.deed f q.0 z q.1) (λ z. stuck-rests s h e.lane e.deed z q.1) (at-limit (length h) (limit s) p),
)

below : (n m : ℕ) → n + 1 ≤ m → n < m
below n m p = omega (arith, p)

pub legal-goes-on : (s : Scenario) (h : List Entry) → Formed s → legal s h → length h ≤ limit s → EachEntry (GoesOn s) h
legal-goes-on s [] f q p = tt
legal-goes-on s (e ∷ h) f q p =
    let n : length h < limit s = omega (arith, p) in
    (legal-goes-on s h f q.0 (omega (arith, n)), goes-on s h e f q n)
