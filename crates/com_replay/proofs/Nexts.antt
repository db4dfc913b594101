-- A lane that has a next entry can make it, by the tables of a runtime.
use Rattle.std.proofs.Common.{ap, sym, subst, ◌∙◌, arith}
use Rattle.std.proofs.lemmas.Grind.{common_steps}
use Rattle.std.specs.Prelude.{◌≡◌, refl, ℕ, ◌<◌, ◌≤◌, Bool, true, false, not, cond, ◌&&◌, ◌==◌, nat_le, List, Option, Some, None, is_none, is_some, option_map}
use Rattle.com_model.specs.declared.deeds.Deed.{Deed}
use Rattle.com_model.specs.declared.deeds.Deed.TheVariants as deed
use Rattle.com_model.specs.declared.deeds.Entry.{Entry}
use Rattle.com_model.specs.declared.scenario.Scenario.{Scenario}
use Rattle.com_model.specs.Tables.{LaneSort, Thread, Host, Pool, NoLane, host_lane, lane_sort, lanes, threads}
use Rattle.com_model.specs.Sight.{Sight, sight}
use Rattle.com_model.specs.Rules.{can_step, next, next_by, no_lane_can, tick_time, ticks}
use Rattle.com_model.specs.Ends.{finished_by, stuck_by}
use Rattle.com_model.specs.State.{State, next_of, sight_of}
use Rattle.com_model.proofs.Lanes.{lane-within}
use Rattle.com_model.proofs.Sights.{same-next, same-sight}
use Rattle.com_runtime.specs.declared.runtime.Standing.{Standing}
use Rattle.com_runtime.specs.declared.runtime.Standing.TheVariants as standing
use Rattle.com_runtime.specs.Standings.{Reached, can_step_in, standing_of}
use Rattle.com_replay.specs.Nexts.{HasNext, goes_on, has_next_in}
use Rattle.com_replay.proofs.Ticking.{ticks_unfinished}

-- ---- lanes

not-zero : (n : ℕ) → 1 ≤ n → (n == 0) ≡ false
not-zero n p = grind (arith, common_steps, p)

no-clock : (s : Scenario) (v : Sight) (l : ℕ) → 1 ≤ l → is_some (cond (l == 0) (ticks s v) None) ≡ true → ⊥
no-clock s v l p e = not-true (subst (λ (b : Bool). is_some (cond b (ticks s v) None) ≡ true) (not-zero l p) e)
  where
    not-true : false ≡ true → ⊥
    not-true e = cc

by-sort : (s : Scenario) (v : Sight) (sort : LaneSort) (l : ℕ) → 1 ≤ l → is_some (next_by s v sort l) ≡ true → can_step s v l ≡ true
by-sort s v NoLane l p e = absurd (no-clock s v l p e)
by-sort s v Thread l p e = e
by-sort s v Host l p e = e
by-sort s v Pool l p e = e

pub lane_can_step : (s : Scenario) (st : State) (l : ℕ) → 1 ≤ l → HasNext s st l → can_step_in s st l ≡ true
unfolding HasNext can_step_in
lane_can_step s st l p e = by-sort s (sight_of s st) (lane_sort s l) l p e

within-by : (s : Scenario) (h : List Entry) (l : ℕ) (x : Option Deed) → next s h l ≡ x → is_some x ≡ true → l ≤ lanes s
within-by s h l None q e = cc
within-by s h l (Some d) q e = lane-within s h l d q

pub lane_is_one : (s : Scenario) (st : State) (l : ℕ) → Reached s st → HasNext s st l → l ≤ lanes s
unfolding Reached HasNext
lane_is_one s st l r e =
    within-by s r.1.0 l (next s r.1.0 l) refl (subst (λ (x : Option Deed). is_some x ≡ true) (same-next s st r.1.0 l r.1.1) e)

-- ---- the clock

abbrev kind : (finished stuck none : Bool) → Standing
kind f k n = cond f standing.Finished (cond k standing.Stuck (cond n standing.Ticks standing.Runs))

clock-by : (s : Scenario) (v : Sight) (n f : Bool) (t : Option ℕ) → no_lane_can s v ≡ n → finished_by s v ≡ f → tick_time v ≡ t
    → ((u : ℕ) → t ≡ Some u → f ≡ true → ⊥) → is_some (cond n (option_map (λ u. deed.Tick u) t) None) ≡ true
    → kind f (stuck_by s v) n ≡ standing.Ticks
clock-by s v false f t a b c g e = cc
clock-by s v true f None a b c g e = cc
clock-by s v true true (Some u) a b c g e = absurd (g u refl refl)
clock-by s v true false (Some u) a b c g e = ap (λ (k : Bool). kind false k true) (not-stuck (no_lane_can s v) (tick_time v) (finished_by s v) c)
  where
    not-stuck : (n : Bool) (t : Option ℕ) (f : Bool) → t ≡ Some u → (n && (is_none t && not f)) ≡ false
    not-stuck n None f q = cc
    not-stuck true (Some x) f q = refl
    not-stuck false (Some x) f q = refl

pub clock_goes_on : (s : Scenario) (st : State) (l : ℕ) → l ≡ 0 → Reached s st → HasNext s st l → standing_of s st ≡ standing.Ticks
unfolding Reached HasNext standing_of
clock_goes_on s st l z r e =
    let h : List Entry = r.1.0 in
    let same : sight_of s st ≡ sight s h = same-sight s st h r.1.1 in
    let has : is_some (next_of s st 0) ≡ true = subst (λ (k : ℕ). is_some (next_of s st k) ≡ true) z e in
    let v : Sight = sight_of s st in
    clock-by s v (no_lane_can s v) (finished_by s v) (tick_time v) refl refl refl
    (λ u t f. ticks_unfinished s h u r.1.1.lawful (subst (λ (w : Sight). tick_time w ≡ Some u) same t) (subst (λ (w : Sight). finished_by s w ≡ true) same f)) has

-- ---- whether there is a next entry

clock-is : (f n : Bool) (t : Option ℕ) → ((u : ℕ) → t ≡ Some u → f ≡ true → ⊥)
    → goes_on (kind f (n && (is_none t && not f)) n) ≡ is_some (cond n (option_map (λ u. deed.Tick u) t) None)
clock-is true true (Some u) g = absurd (g u refl refl)
clock-is false true (Some u) g = refl
clock-is true true None g = refl
clock-is false true None g = refl
clock-is true false t g = refl
clock-is false false t g = refl

pub clock_has : (s : Scenario) (st : State) (l : ℕ) → l ≡ 0 → Reached s st → goes_on (standing_of s st) ≡ has_next_in s st l
unfolding Reached has_next_in standing_of
clock_has s st l z r =
    let h : List Entry = r.1.0 in
    let same : sight_of s st ≡ sight s h = same-sight s st h r.1.1 in
    let v : Sight = sight_of s st in
    clock-is (finished_by s v) (no_lane_can s v) (tick_time v)
    (λ u t f. ticks_unfinished s h u r.1.1.lawful (subst (λ (w : Sight). tick_time w ≡ Some u) same t)
    (subst (λ (w : Sight). finished_by s w ≡ true) same f))
    ∙ ap (λ (k : ℕ). is_some (next_of s st k)) (sym z)

-- A number above the highest lane has none.
pub none_above : (s : Scenario) (st : State) (l : ℕ) → lanes s < l → Reached s st → false ≡ has_next_in s st l
unfolding has_next_in HasNext
none_above s st l p r =
    elim (is_some (next_of s st l)) as (λ b. is_some (next_of s st l) ≡ b → false ≡ b) [
      | true ↦ λ e. let low : l ≤ lanes s = lane_is_one s st l r e in absurd (omega (arith, low, p))
      | false ↦ λ e. refl
    ] refl

low-true : (m n : ℕ) → m ≤ n → nat_le m n ≡ true
low-true m n p = grind (arith, common_steps, p)

sorted : (s : Scenario) (v : Sight) (l : ℕ) (a b c e : Bool) → a ≡ false → e ≡ true
    → can_step s v l ≡ is_some (next_by s v (cond a NoLane (cond b Thread (cond c Host (cond e Pool NoLane)))) l)
sorted s v l false true c e p q = refl
sorted s v l false false true e p q = refl
sorted s v l false false false true p q = refl
sorted s v l false false false false p q = cc
sorted s v l true b c e p q = cc

pub lane_has : (s : Scenario) (st : State) (l : ℕ) → 1 ≤ l → l ≤ lanes s → can_step_in s st l ≡ has_next_in s st l
unfolding can_step_in has_next_in
lane_has s st l p q =
    sorted s (sight_of s st) l (l == 0) (nat_le l (threads s)) (l == host_lane s) (nat_le l (lanes s)) (not-zero l p)
    (low-true l (lanes s) q)
