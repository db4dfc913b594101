-- The schedule gives a legal history that has ended: as long as it has not, some lane can step or a Tick is due.
use Rattle.std.proofs.Common.{subst, sym, ap, ◌⊎◌, inl, inr, eqb-true, arith}
use Rattle.std.proofs.lemmas.Grind.{common_steps}
use Rattle.std.specs.Prelude.{◌≡◌, refl, ℕ, zero, suc, ◌+◌, ◌-◌, ◌≤◌, ◌<◌, Bool, true, false, not, cond, ◌==◌, ◌&&◌, ◌||◌, nat_le, List, [], ◌∷◌, ◌++◌, length, Option, Some, None, is_some, is_none, option_map}
use Rattle.com_model.specs.declared.deeds.Deed.{Deed}
use Rattle.com_model.specs.declared.deeds.Deed.TheVariants as deed
use Rattle.com_model.specs.declared.deeds.Entry.{Entry}
use Rattle.com_model.specs.declared.scenario.Scenario.{Scenario}
use Rattle.com_model.specs.declared.counts.Ended.{Ended}
use Rattle.com_model.specs.declared.counts.Ended.TheVariants as ended
use Rattle.com_refs_books.specs.Counting.{numbers_from}
use Rattle.com_model.specs.Lists.{or_else, one_to, any_of, is_member, first_that}
use Rattle.com_model.specs.Tables.{LaneSort, Thread, Host, Pool, NoLane, threads, host_lane, lanes, lane_sort}
use Rattle.com_model.specs.Sight.{Sight, sight}
use Rattle.com_model.specs.Rules.{can_step, no_lane_can, tick_time, next_by, next, legal}
use Rattle.com_model.specs.Ends.{limit, finished_by, stuck_by, ended_as, Turn, can_pick, picked, lanes_after, in_round, at_clock, turn, last_after, with_entry, with_turn, unless_ended, run_on, scheduled}

-- ---- small facts

and-left : (p q : Bool) → (p && q) ≡ true → p ≡ true
and-left true q e = refl
and-left false q e = cc

and-right : (p q : Bool) → (p && q) ≡ true → q ≡ true
and-right true q e = e
and-right false q e = cc

not-both : (b : Bool) → b ≡ true → b ≡ false → ⊥
not-both b p q = cc

same-number : (n : ℕ) → (n == n) ≡ true
same-number n = grind (arith, common_steps)

in-first : (k : ℕ) (xs ys : List ℕ) → is_member k xs ≡ true → is_member k (xs ++ ys) ≡ true
in-first k [] ys m = cc
in-first k (x ∷ xs) ys m =
    elim (k == x) as (λ b. (b || is_member k xs) ≡ true → (b || is_member k (xs ++ ys)) ≡ true) [ true ↦ λ p. refl | false ↦ λ p. in-first k xs ys p ] m

in-second : (k : ℕ) (xs ys : List ℕ) → is_member k ys ≡ true → is_member k (xs ++ ys) ≡ true
in-second k [] ys m = m
in-second k (x ∷ xs) ys m = either (k == x) (is_member k (xs ++ ys)) (in-second k xs ys m)
  where
    either : (b c : Bool) → c ≡ true → (b || c) ≡ true
    either true c e = refl
    either false c e = e

in-either : (k : ℕ) (xs ys : List ℕ) → is_member k (xs ++ ys) ≡ true → (is_member k xs ≡ true) ⊎ (is_member k ys ≡ true)
in-either k [] ys m = inr m
in-either k (x ∷ xs) ys m =
    elim (k == x) as (λ b. (b || is_member k (xs ++ ys)) ≡ true → ((b || is_member k xs) ≡ true) ⊎ (is_member k ys ≡ true)) [ true ↦ λ p. inl refl | false ↦ λ p. in-either k xs ys p ] m

in-one : (k x : ℕ) → is_member k (x ∷ []) ≡ true → k ≡ x
in-one k x m = elim (k == x) as (λ b. (k == x) ≡ b → (b || false) ≡ true → k ≡ x) [ true ↦ λ e p. eqb-true k x e | false ↦ λ e p. cc ] refl m

-- ---- 1, 2, .., n and n, n + 1, ..

one-in : (n k : ℕ) → 1 ≤ k → k ≤ n → is_member k (one_to n) ≡ true
one-in zero k p q = absurd (omega (arith, p, q))
one-in (suc n) k p q =
    elim (k == suc n) as (λ b. (k == suc n) ≡ b → is_member k (one_to (suc n)) ≡ true) [
      | true ↦ λ e. in-second k (one_to n) (suc n ∷ []) (ap (λ (b : Bool). b || false) e)
      | false ↦ λ e. in-first k (one_to n) (suc n ∷ []) (one-in n k p (grind (arith, common_steps, q, e)))
    ] refl

one-within : (n k : ℕ) → is_member k (one_to n) ≡ true → (1 ≤ k) × (k ≤ n)
one-within zero k m = cc
one-within (suc n) k m =
    elim (in-either k (one_to n) (suc n ∷ []) m) as (λ _. (1 ≤ k) × (k ≤ suc n)) [
      | inl p ↦ let w : (1 ≤ k) × (k ≤ n) = one-within n k p in let low : k ≤ n = w.1 in (w.0, omega (arith, low))
      | inr p ↦ let e : k ≡ suc n = in-one k (suc n) p in (omega (arith, e), omega (arith, e))
    ]

from-in : (n m k : ℕ) → n ≤ k → k < n + m → is_member k (numbers_from n m) ≡ true
from-in n zero k p q = absurd (omega (arith, p, q))
from-in n (suc m) k p q =
    elim (k == n) as (λ b. (k == n) ≡ b → (b || is_member k (numbers_from (n + 1) m)) ≡ true) [
      | true ↦ λ e. refl
      | false ↦ λ e. from-in (n + 1) m k (grind (arith, common_steps, p, e)) (omega (arith, q))
    ] refl

from-within : (n m k : ℕ) → is_member k (numbers_from n m) ≡ true → (n ≤ k) × (k < n + m)
from-within n zero k e = cc
from-within n (suc m) k e =
    elim (k == n) as (λ b. (k == n) ≡ b → (b || is_member k (numbers_from (n + 1) m)) ≡ true → (n ≤ k) × (k < n + suc m)) [
      | true ↦ λ z p. let same : k ≡ n = eqb-true k n z in (omega (arith, same), omega (arith, same))
      | false ↦ λ z p. let w : (n + 1 ≤ k) × (k < n + 1 + m) = from-within (n + 1) m k p in let a : n + 1 ≤ k = w.0 in let b : k < n + 1 + m = w.1 in (omega (arith, a), omega (arith, b))
    ] refl e

-- The lanes in their order, from the one after the last.
round-in : (n last k : ℕ) → last ≤ n → 1 ≤ k → k ≤ n → is_member k (numbers_from (last + 1) (n - last) ++ one_to last) ≡ true
round-in n last k h p q =
    elim (nat_le k last) as (λ b. nat_le k last ≡ b → is_member k (numbers_from (last + 1) (n - last) ++ one_to last) ≡ true) [
      | true ↦ λ e. in-second k (numbers_from (last + 1) (n - last)) (one_to last) (one-in last k p (grind (arith, common_steps, e)))
      | false ↦ λ e. in-first k (numbers_from (last + 1) (n - last)) (one_to last) (let m : last < k = grind (arith, common_steps, e) in from-in (last + 1) (n - last) k (omega (arith, m)) (omega (arith, h, q)))
    ] refl

round-within : (n last k : ℕ) → last ≤ n → is_member k (numbers_from (last + 1) (n - last) ++ one_to last) ≡ true → (1 ≤ k) × (k ≤ n)
round-within n last k h m =
    elim (in-either k (numbers_from (last + 1) (n - last)) (one_to last) m) as (λ _. (1 ≤ k) × (k ≤ n)) [
      | inl p ↦ let w : (last + 1 ≤ k) × (k < last + 1 + (n - last)) = from-within (last + 1) (n - last) k p in let a : last + 1 ≤ k = w.0 in let b : k < last + 1 + (n - last) = w.1 in (omega (arith, a), omega (arith, b, h))
      | inr p ↦ let w : (1 ≤ k) × (k ≤ last) = one-within last k p in let b : k ≤ last = w.1 in (w.0, omega (arith, b, h))
    ]

-- ---- the first that passes a test

first-some : (test : ℕ → Bool) (xs : List ℕ) (k : ℕ) → is_member k xs ≡ true → test k ≡ true → (l : ℕ) × (first_that test xs ≡ Some l) × (test l ≡ true) × (is_member l xs ≡ true)
first-some test [] k m e = cc
first-some test (x ∷ xs) k m e =
    elim (test x) as (λ t. test x ≡ t → (l : ℕ) × (cond t (Some x) (first_that test xs) ≡ Some l) × (test l ≡ true) × ((l == x || is_member l xs) ≡ true)) [
      | true ↦ λ z. (x, refl, z, ap (λ (b : Bool). b || is_member x xs) (same-number x))
      | false ↦ λ z. by-rest z (elim (k == x) as (λ b. (k == x) ≡ b → (b || is_member k xs) ≡ true → (l : ℕ) × (first_that test xs ≡ Some l) × (test l ≡ true) × (is_member l xs ≡ true)) [
        | true ↦ λ y p. absurd (not-both (test k) e (subst (λ (j : ℕ). test j ≡ false) (sym (eqb-true k x y)) z))
        | false ↦ λ y p. first-some test xs k p e
      ] refl m)
    ] refl
  where
    or-right : (b c : Bool) → c ≡ true → (b || c) ≡ true
    or-right true c e = refl
    or-right false c e = e

    by-rest : test x ≡ false → ((l : ℕ) × (first_that test xs ≡ Some l) × (test l ≡ true) × (is_member l xs ≡ true)) → (l : ℕ) × (first_that test xs ≡ Some l) × (test l ≡ true) × ((l == x || is_member l xs) ≡ true)
    by-rest z r = (r.0, r.1, r.2, or-right (r.0 == x) (is_member r.0 xs) r.3)

any-one : (test : ℕ → Bool) (xs : List ℕ) → any_of test xs ≡ true → (k : ℕ) × (is_member k xs ≡ true) × (test k ≡ true)
any-one test [] e = cc
any-one test (x ∷ xs) e =
    elim (test x) as (λ t. test x ≡ t → (t || any_of test xs) ≡ true → (k : ℕ) × ((k == x || is_member k xs) ≡ true) × (test k ≡ true)) [
      | true ↦ λ z p. (x, ap (λ (b : Bool). b || is_member x xs) (same-number x), z)
      | false ↦ λ z p. by-rest (any-one test xs p)
    ] refl e
  where
    or-right : (b c : Bool) → c ≡ true → (b || c) ≡ true
    or-right true c e = refl
    or-right false c e = e

    by-rest : ((k : ℕ) × (is_member k xs ≡ true) × (test k ≡ true)) → (k : ℕ) × ((k == x || is_member k xs) ≡ true) × (test k ≡ true)
    by-rest r = (r.0, or-right (r.0 == x) (is_member r.0 xs) r.1, r.2)

-- ---- a lane that can step has an entry

steps-in : (s : Scenario) (v : Sight) (sort : LaneSort) (l : ℕ) → (sort ≡ NoLane → ⊥) → can_step s v l ≡ true → is_some (next_by s v sort l) ≡ true
steps-in s v NoLane l n e = absurd (n refl)
steps-in s v Thread l n e = e
steps-in s v Host l n e = e
steps-in s v Pool l n e = e

sort-some : (a b c d : Bool) → a ≡ false → d ≡ true → cond a NoLane (cond b Thread (cond c Host (cond d Pool NoLane))) ≡ NoLane → ⊥
sort-some true b c d p q e = cc
sort-some false true c d p q e = cc
sort-some false false true d p q e = cc
sort-some false false false true p q e = cc
sort-some false false false false p q e = cc

not-zero : (l : ℕ) → 1 ≤ l → (l == 0) ≡ false
not-zero zero p = absurd (omega (arith, p))
not-zero (suc l) p = grind (arith, common_steps)

low : (l n : ℕ) → l ≤ n → nat_le l n ≡ true
low l n p = grind (arith, common_steps, p)

lane-steps : (s : Scenario) (h : List Entry) (l : ℕ) → 1 ≤ l → l ≤ lanes s → can_step s (sight s h) l ≡ true → is_some (next s h l) ≡ true
lane-steps s h l p q e =
    steps-in s (sight s h) (lane_sort s l) l (sort-some (l == 0) (nat_le l (threads s)) (l == host_lane s) (nat_le l (lanes s)) (not-zero l p) (low l (lanes s) q)) e

clock-steps : (s : Scenario) (h : List Entry) (t : ℕ) → no_lane_can s (sight s h) ≡ true → tick_time (sight s h) ≡ Some t → is_some (next s h 0) ≡ true
clock-steps s h t p e = by-tick (no_lane_can s (sight s h)) (tick_time (sight s h)) p e
  where
    by-tick : (b : Bool) (x : Option ℕ) → b ≡ true → x ≡ Some t → is_some (cond b (option_map (λ n. deed.Tick n) x) None) ≡ true
    by-tick true None p e = cc
    by-tick true (Some n) p e = refl
    by-tick false x p e = cc

-- ---- a turn

abbrev Steps : Scenario → List Entry → Turn → Type 0
Steps s h t = (is_some (next s h t.lane) ≡ true) × (t.lane ≤ lanes s)

abbrev TurnSteps : Scenario → List Entry → Option Turn → Type 0
TurnSteps s h None = ⊥
TurnSteps s h (Some t) = Steps s h t

high : (l n : ℕ) → nat_le l n ≡ true → l ≤ n
high l n p = grind (arith, common_steps, p)

picked-steps : (s : Scenario) (h : List Entry) (picks : List ℕ) (y : Option Turn) → TurnSteps s h y → TurnSteps s h (or_else (picked (can_pick s (sight s h)) picks) y)
picked-steps s h [] y g = g
picked-steps s h (l ∷ ls) y g =
    elim (can_pick s (sight s h) l) as (λ t. can_pick s (sight s h) l ≡ t → TurnSteps s h (or_else (cond t (Some (record { lane = l; picks = ls })) (picked (can_pick s (sight s h)) ls)) y)) [
      | true ↦ λ e. let w : (nat_le 1 l && nat_le l (lanes s)) ≡ true = and-left (nat_le 1 l && nat_le l (lanes s)) _ e in
          let q : l ≤ lanes s = high l (lanes s) (and-right (nat_le 1 l) _ w) in
          (lane-steps s h l (high 1 l (and-left (nat_le 1 l) _ w)) q (and-right (nat_le 1 l && nat_le l (lanes s)) _ e), q)
      | false ↦ λ e. picked-steps s h ls y g
    ] refl

round-steps : (s : Scenario) (h : List Entry) (last : ℕ) → last ≤ lanes s → any_of (can_step s (sight s h)) (one_to (lanes s)) ≡ true → TurnSteps s h (in_round s (sight s h) last)
round-steps s h last p e =
    let k : (k : ℕ) × (is_member k (one_to (lanes s)) ≡ true) × (can_step s (sight s h) k ≡ true) = any-one (can_step s (sight s h)) (one_to (lanes s)) e in
    let w : (1 ≤ k.0) × (k.0 ≤ lanes s) = one-within (lanes s) k.0 k.1 in
    let f : (l : ℕ) × (first_that (can_step s (sight s h)) (lanes_after s last) ≡ Some l) × (can_step s (sight s h) l ≡ true) × (is_member l (lanes_after s last) ≡ true) =
    first-some (can_step s (sight s h)) (lanes_after s last) k.0 (round-in (lanes s) last k.0 p w.0 w.1) k.2 in
    let b : (1 ≤ f.0) × (f.0 ≤ lanes s) = round-within (lanes s) last f.0 p f.3 in
    subst (λ (x : Option ℕ). TurnSteps s h (option_map (λ l. record { lane = l; picks = [] }) x)) (sym f.1) (lane-steps s h f.0 b.0 b.1 f.2, b.1)

not-true : (b : Bool) → not b ≡ false → b ≡ true
not-true true e = refl
not-true false e = cc

-- What has not ended is neither finished nor stuck, and within the limit.
record GoesOn (s : Scenario) (h : List Entry) : Type 0 where
  not_finished : finished_by s (sight s h) ≡ false
  not_stuck : stuck_by s (sight s h) ≡ false

goes-by : (within f k n : Bool) → within ≡ true → cond within (cond f (Some ended.Ok) (cond k (Some ended.Stuck) (cond n (Some ended.Budget) None))) None ≡ None → (f ≡ false) × (k ≡ false)
goes-by false f k n w e = cc
goes-by true true k n w e = cc
goes-by true false true n w e = cc
goes-by true false false n w e = (refl, refl)

goes-on : (s : Scenario) (h : List Entry) → length h ≤ limit s → ended_as s h ≡ None → GoesOn s h
goes-on s h p e =
    let z : (finished_by s (sight s h) ≡ false) × (stuck_by s (sight s h) ≡ false) = goes-by (nat_le (length h) (limit s)) (finished_by s (sight s h)) (stuck_by s (sight s h)) (length h == limit s) (low (length h) (limit s) p) e in
    record { not_finished = z.0; not_stuck = z.1 }

clock-turn : (s : Scenario) (h : List Entry) (picks : List ℕ) (x : Option ℕ) (f : Bool) → no_lane_can s (sight s h) ≡ true → tick_time (sight s h) ≡ x → f ≡ false → (true && (is_none x && not f)) ≡ false → TurnSteps s h (option_map (λ t. record { lane = 0; picks = picks }) x)
clock-turn s h picks (Some t) f p e n k = (clock-steps s h t p e, omega arith)
clock-turn s h picks None true p e n k = cc
clock-turn s h picks None false p e n k = cc

turn-steps : (s : Scenario) (h : List Entry) (picks : List ℕ) (last : ℕ) → last ≤ lanes s → GoesOn s h → TurnSteps s h (turn s (sight s h) picks last)
turn-steps s h picks last p g =
    elim (no_lane_can s (sight s h)) as (λ b. no_lane_can s (sight s h) ≡ b → (b && (is_none (tick_time (sight s h)) && not (finished_by s (sight s h)))) ≡ false → TurnSteps s h (cond b (at_clock (sight s h) picks) (or_else (picked (can_pick s (sight s h)) picks) (in_round s (sight s h) last)))) [
      | true ↦ λ e k. clock-turn s h picks (tick_time (sight s h)) (finished_by s (sight s h)) e refl g.not_finished k
      | false ↦ λ e k. picked-steps s h picks (in_round s (sight s h) last) (round-steps s h last p (not-true (any_of (can_step s (sight s h)) (one_to (lanes s))) e))
    ] refl g.not_stuck

-- ---- the schedule

last-low : (l last n : ℕ) → l ≤ n → last ≤ n → last_after l last ≤ n
last-low zero last n p q = q
last-low (suc l) last n p q = p

budget-by : (within f k n : Bool) → within ≡ true → n ≡ true → is_some (cond within (cond f (Some ended.Ok) (cond k (Some ended.Stuck) (cond n (Some ended.Budget) None))) None) ≡ true
budget-by false f k n w e = cc
budget-by true true k n w e = refl
budget-by true false true n w e = refl
budget-by true false false true w e = refl
budget-by true false false false w e = cc

budget : (s : Scenario) (h : List Entry) → length h ≡ limit s → is_some (ended_as s h) ≡ true
budget s h e =
    budget-by (nat_le (length h) (limit s)) (finished_by s (sight s h)) (stuck_by s (sight s h)) (length h == limit s)
    (low (length h) (limit s) (omega (arith, e))) (subst (λ (n : ℕ). (length h == n) ≡ true) e (same-number (length h)))

abbrev pub LegalEnd : Scenario → List Entry → Type 0
LegalEnd s h = legal s h × (is_some (ended_as s h) ≡ true)

some-true : (x : Option Ended) (y : Ended) → x ≡ Some y → is_some x ≡ true
some-true None y e = cc
some-true (Some z) y e = refl

none-turn : (s : Scenario) (h : List Entry) (x : Option Turn) → TurnSteps s h x → x ≡ None → ⊥
none-turn s h None g e = g
none-turn s h (Some t) g e = cc

turn-of : (s : Scenario) (h : List Entry) (x : Option Turn) (t : Turn) → TurnSteps s h x → x ≡ Some t → Steps s h t
turn-of s h x t g e = subst (TurnSteps s h) e g

none-some : (x : Option Deed) → is_some x ≡ true → x ≡ None → ⊥
none-some None p e = cc
none-some (Some d) p e = cc

one-less : (a n m : ℕ) → a + suc n ≡ m → suc a + n ≡ m
one-less a n m e = omega (arith, e)

within-sum : (a n m : ℕ) → a + n ≡ m → a ≤ m
within-sum a n m e = omega (arith, e)

run-ends : (n : ℕ) (s : Scenario) (h : List Entry) (picks : List ℕ) (last : ℕ) → legal s h → last ≤ lanes s → length h + n ≡ limit s → LegalEnd s (run_on n s h picks last)
run-ends zero s h picks last q p e = (q, budget s h (same-sum (length h) (limit s) e))
  where
    same-sum : (a m : ℕ) → a + 0 ≡ m → a ≡ m
    same-sum a m e = omega (arith, e)
run-ends (suc n) s h picks last q p e =
    elim (ended_as s h) as (λ x. ended_as s h ≡ x → LegalEnd s (unless_ended s (run_on n s) h picks last x)) [
      | Some y ↦ λ z. (q, some-true (ended_as s h) y z)
      | None ↦ λ z.
          let g : TurnSteps s h (turn s (sight s h) picks last) = turn-steps s h picks last p (goes-on s h (within-sum (length h) (suc n) (limit s) e) z) in
          elim (turn s (sight s h) picks last) as (λ x. turn s (sight s h) picks last ≡ x → LegalEnd s (with_turn s (run_on n s) h last x)) [
            | None ↦ λ u. absurd (none-turn s h (turn s (sight s h) picks last) g u)
            | Some t ↦ λ u.
                let w : Steps s h t = turn-of s h (turn s (sight s h) picks last) t g u in
                elim (next s h t.lane) as (λ x. next s h t.lane ≡ x → LegalEnd s (with_entry (run_on n s) h t last x)) [
                  | None ↦ λ k. absurd (none-some (next s h t.lane) w.0 k)
                  | Some d ↦ λ k. run-ends n s (record { lane = t.lane; deed = d } ∷ h) t.picks (last_after t.lane last) (q, k) (last-low t.lane last (lanes s) w.1 p) (one-less (length h) n (limit s) e)
                ] refl
          ] refl
    ] refl

pub legal-end : (s : Scenario) → LegalEnd s (scheduled s)
legal-end s = run-ends (limit s) s [] s.picks 0 tt (omega arith) (no-sum (limit s))
  where
    no-sum : (n : ℕ) → 0 + n ≡ n
    no-sum n = omega arith
