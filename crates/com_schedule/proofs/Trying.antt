-- From lanes that are tried one after another to the turn of the schedule.
use Rattle.std.proofs.Common.{sym, subst, ◌∙◌, ap, arith, get_or, drop}
use Rattle.std.proofs.lemmas.Bool.{leb-true}
use Rattle.std.proofs.lemmas.Grind.{common_steps}
use Rattle.std.specs.Prelude.{◌≡◌, refl, ℕ, zero, suc, ◌+◌, ◌-◌, ◌≤◌, ◌<◌, Bool, true, false, cond, ◌==◌, ◌&&◌, nat_le, List, length, Option, Some, None}
use Rattle.com_model.specs.declared.counts.Ended.{Ended}
use Rattle.com_model.specs.declared.counts.Ended.TheVariants as ended
use Rattle.com_model.specs.declared.deeds.Entry.{Entry}
use Rattle.com_model.specs.declared.scenario.Scenario.{Scenario}
use Rattle.com_model.specs.Ends.{Turn, last_after, lanes_after, limit, picked}
use Rattle.com_model.specs.Lists.{first_that}
use Rattle.com_model.specs.State.{State}
use Rattle.com_model.specs.Tables.{lanes}
use Rattle.com_refs_books.specs.Counting.{numbers_from}
use Rattle.com_runtime.specs.declared.runtime.Standing.TheVariants as standing
use Rattle.com_runtime.specs.declared.schedule.Chosen.{Chosen}
use Rattle.com_runtime.specs.Standings.{CanGo, HasTurn, Reached, budget_of, can_pick_in, can_step_in, ended_now, none_can_in, standing_of, turn_now}
use Rattle.com_runtime.specs.Turns.{IsNext, IsTurn, served_in}
use Rattle.com_runtime.proofs.Choices.{Scanning, ended_runs, has_picked, has_round, none_can, pick_here, pick_none, pick_on, round_rest, round_some, scan_here, scan_none, scan_on, scan_start}
use Rattle.com_runtime.proofs.Resting.{runs_reached}
use Rattle.com_schedule.specs.Tried.{Goes, LaneTried, NoTurn, NoneFirst, NonePicked, PickTried, Still, TakesTurn, Tried, TurnTried, WasFirst, WasPicked}

pub nothing_yet : (st : State) (steps : List ℕ) → Still st st steps steps
nothing_yet st steps = record { state = refl; steps_are = refl }

-- ---- one lane

pub lane_goes : (s : Scenario) (st : State) (l : ℕ) (b : Bool) (e : Entry) (new : State) (x y : List ℕ) → Tried s st l b e new x y → b ≡ true → Goes s st l e new x y
lane_goes s st l true e new x y t p = t
lane_goes s st l false e new x y t p = cc

pub lane_rests : (s : Scenario) (st : State) (l : ℕ) (b : Bool) (e : Entry) (new : State) (x y : List ℕ) → Tried s st l b e new x y → b ≡ false → Still st new x y
lane_rests s st l true e new x y t p = cc
lane_rests s st l false e new x y t p = t

still-more : (st now new : State) (a x y : List ℕ) → Still st now a x → Still now new x y → Still st new a y
still-more st now new a x y p q = record { state = q.state ∙ p.state; steps_are = q.steps_are ∙ p.steps_are }

-- What a lane does that is tried when nothing has changed yet, it does from the beginning.
goes-from : (r s : Scenario) (st now new : State) (l : ℕ) (e : Entry) (a x y : List ℕ) → r ≡ s → Still st now a x → Goes r now l e new x y → Goes s st l e new a y
goes-from r s st now new l e a x y same p g =
    subst (λ (k : Scenario). Goes k st l e new a y) same
    (subst (λ (t : State). Goes r t l e new a y) p.state
    (subst (λ (z : List ℕ). Goes r now l e new z y) p.steps_are g))

three : (a b c : Bool) → ((a && b) && c) ≡ true → (a ≡ true) × (b ≡ true) × (c ≡ true)
three true true true e = (refl, refl, refl)
three true true false e = cc
three true false c e = cc
three false b c e = cc

-- ---- picks

-- So far as the picks were tried: nothing has changed, and the first of all that can step is the first of those that are left.
pub record Picking (s : Scenario) (st now : State) (steps later picks : List ℕ) (from next : ℕ) : Type 0 where
  pub still : Still st now steps later
  pub way : picked (can_pick_in s st) (drop from picks) ≡ picked (can_pick_in s st) (drop next picks)

pub picking_starts : (s : Scenario) (st : State) (steps picks : List ℕ) (from : ℕ) → Picking s st st steps steps picks from from
picking_starts s st steps picks from = record { still = nothing_yet st steps; way = refl }

can-before : (test : Scenario → State → ℕ → Bool) (r s : Scenario) (st now : State) (l : ℕ) (b c : Bool) → r ≡ s → now ≡ st → b ≡ test r now l → b ≡ c → test s st l ≡ c
can-before test r s st now l b c same state e f = sym (λ i. test (same i) (state i) l) ∙ sym e ∙ f

pub picking_on : (r s : Scenario) (st now new : State) (a x y picks : List ℕ) (from next : ℕ) (b : Bool) (e : Entry) → r ≡ s → Picking s st now a x picks from next → next < length picks
    → b ≡ can_pick_in r now (get_or picks next 0) → Tried r now (get_or picks next 0) b e new x y → b ≡ false → Picking s st new a y picks from (next + 1)
picking_on r s st now new a x y picks from next b e same p h can t f =
    let none : can_pick_in s st (get_or picks next 0) ≡ false = can-before can_pick_in r s st now (get_or picks next 0) b false same p.still.state can f in
    record {
      still = still-more st now new a x y p.still (lane_rests r now (get_or picks next 0) b e new x y t f);
      way = p.way ∙ pick_on (can_pick_in s st) picks next h none;
    }

picked-can : (s : Scenario) (st : State) (l : ℕ) → can_pick_in s st l ≡ true → CanGo s st l
unfolding can_pick_in
picked-can s st l e =
    let w : (nat_le 1 l ≡ true) × (nat_le l (lanes s) ≡ true) × (can_step_in s st l ≡ true) = three (nat_le 1 l) (nat_le l (lanes s)) (can_step_in s st l) e in
    (leb-true 1 l w.0, leb-true l (lanes s) w.1, w.2)

pub picking_here : (r s : Scenario) (st now new : State) (a x y picks : List ℕ) (from next : ℕ) (b : Bool) (e : Entry) → r ≡ s → Picking s st now a x picks from next → next < length picks
    → b ≡ can_pick_in r now (get_or picks next 0) → Tried r now (get_or picks next 0) b e new x y → b ≡ true
    → WasPicked s st picks from (record { lane = get_or picks next 0; tried = next + 1 }) e new a y
picking_here r s st now new a x y picks from next b e same p h can t f =
    let some : can_pick_in s st (get_or picks next 0) ≡ true = can-before can_pick_in r s st now (get_or picks next 0) b true same p.still.state can f in
    record {
      first = p.way ∙ pick_here (can_pick_in s st) picks next h some;
      can = picked-can s st (get_or picks next 0) some;
      goes = goes-from r s st now new (get_or picks next 0) e a x y same p.still (lane_goes r now (get_or picks next 0) b e new x y t f);
    }

pub picking_none : (s : Scenario) (st now : State) (a x picks : List ℕ) (from next : ℕ) → Picking s st now a x picks from next → length picks ≤ next → NonePicked s st picks from now a x
picking_none s st now a x picks from next p h = record { none = p.way ∙ pick_none (can_pick_in s st) picks next h; still = p.still }

-- ---- lanes in their order

pub record Rounding (s : Scenario) (st now : State) (steps later : List ℕ) (last count step : ℕ) : Type 0 where
  pub still : Still st now steps later
  pub scanning : Scanning (can_step_in s st) last count step

pub rounding_starts : (s : Scenario) (st : State) (steps : List ℕ) (last count : ℕ) → Rounding s st st steps steps last count 0
rounding_starts s st steps last count = record { still = nothing_yet st steps; scanning = scan_start (can_step_in s st) last count }

pub rounding_on : (r s : Scenario) (st now new : State) (a x y : List ℕ) (last count step : ℕ) (b : Bool) (e : Entry) → r ≡ s → Rounding s st now a x last count step → step < count
    → b ≡ can_step_in r now (last + 1 + step) → Tried r now (last + 1 + step) b e new x y → b ≡ false → Rounding s st new a y last count (step + 1)
rounding_on r s st now new a x y last count step b e same p h can t f =
    let none : can_step_in s st (last + 1 + step) ≡ false = can-before can_step_in r s st now (last + 1 + step) b false same p.still.state can f in
    record {
      still = still-more st now new a x y p.still (lane_rests r now (last + 1 + step) b e new x y t f);
      scanning = scan_on (can_step_in s st) last count step p.scanning h none;
    }

pub rounding_here : (r s : Scenario) (st now new : State) (a x y : List ℕ) (last count step : ℕ) (b : Bool) (e : Entry) → r ≡ s → last + count ≤ lanes s → Rounding s st now a x last count step → step < count
    → b ≡ can_step_in r now (last + 1 + step) → Tried r now (last + 1 + step) b e new x y → b ≡ true
    → WasFirst s st (numbers_from (last + 1) count) (last + 1 + step) e new a y
rounding_here r s st now new a x y last count step b e same w p h can t f =
    let some : can_step_in s st (last + 1 + step) ≡ true = can-before can_step_in r s st now (last + 1 + step) b true same p.still.state can f in
    record {
      first = sym (scan_here (can_step_in s st) last count step p.scanning h some);
      can = (omega arith, omega (arith, w, h), some);
      goes = goes-from r s st now new (last + 1 + step) e a x y same p.still (lane_goes r now (last + 1 + step) b e new x y t f);
    }

pub rounding_none : (s : Scenario) (st now : State) (a x : List ℕ) (last count step : ℕ) → Rounding s st now a x last count step → count ≤ step → NoneFirst s st (numbers_from (last + 1) count) now a x
rounding_none s st now a x last count step p h = record { none = sym (scan_none (can_step_in s st) last count step p.scanning h); still = p.still }

-- What lanes do that are tried when nothing has changed yet, they do from the beginning.
lanes-from : (r s : Scenario) (st now : State) (ls : List ℕ) (x : Option ℕ) (e : Entry) (new : State) (a b c : List ℕ) → r ≡ s → Still st now a b → LaneTried r now ls x e new b c → LaneTried s st ls x e new a c
lanes-from r s st now ls (Some l) e new a b c same n w = record {
  first = sym (λ i. first_that (can_step_in (same i) (n.state i)) ls) ∙ w.first;
  can = subst (λ (k : Scenario). CanGo k st l) same (subst (λ (t : State). CanGo r t l) n.state w.can);
  goes = goes-from r s st now new l e a b c same n w.goes;
}
lanes-from r s st now ls None e new a b c same n w = record {
  none = sym (λ i. first_that (can_step_in (same i) (n.state i)) ls) ∙ w.none;
  still = still-more st now new a b c n w.still;
}

-- The lanes behind the last one, and then those from 1 on.
pub round_found : (s : Scenario) (st : State) (last l count : ℕ) (x : Option ℕ) (e : Entry) (new : State) (a b : List ℕ) → x ≡ Some l → count ≡ lanes s - last
    → LaneTried s st (numbers_from (last + 1) count) x e new a b → WasFirst s st (lanes_after s last) l e new a b
round_found s st last l count x e new a b some all t =
    let w : WasFirst s st (numbers_from (last + 1) (lanes s - last)) l e new a b =
    subst (λ (n : ℕ). WasFirst s st (numbers_from (last + 1) n) l e new a b) all (subst (λ (y : Option ℕ). LaneTried s st (numbers_from (last + 1) count) y e new a b) some t) in
    record { first = sym (round_some (can_step_in s st) s last l (sym w.first)); can = w.can; goes = w.goes }

rounded : (s : Scenario) (st : State) (last : ℕ) (x : Option ℕ) (e : Entry) (new : State) (a b : List ℕ) → first_that (can_step_in s st) (numbers_from (last + 1) (lanes s - last)) ≡ None
    → LaneTried s st (numbers_from 1 last) x e new a b → LaneTried s st (lanes_after s last) x e new a b
rounded s st last (Some l) e new a b n w = record { first = sym (round_rest (can_step_in s st) s last (Some l) (sym n) (sym w.first)); can = w.can; goes = w.goes }
rounded s st last None e new a b n w = record { none = sym (round_rest (can_step_in s st) s last None (sym n) (sym w.none)); still = w.still }

pub round_again : (r s : Scenario) (st now : State) (last count : ℕ) (y x : Option ℕ) (f e : Entry) (new : State) (a b c : List ℕ) → r ≡ s → y ≡ None → count ≡ lanes s - last
    → LaneTried s st (numbers_from (last + 1) count) y f now a b → LaneTried r now (numbers_from 1 last) x e new b c → LaneTried s st (lanes_after s last) x e new a c
round_again r s st now last count y x f e new a b c same none all t w =
    let n : NoneFirst s st (numbers_from (last + 1) (lanes s - last)) now a b =
    subst (λ (k : ℕ). NoneFirst s st (numbers_from (last + 1) k) now a b) all (subst (λ (z : Option ℕ). LaneTried s st (numbers_from (last + 1) count) z f now a b) none t) in
    rounded s st last x e new a c n.none (lanes-from r s st now (numbers_from 1 last) x e new a b c same n.still w)

-- ---- the turn of the schedule

apart : (n m : ℕ) → n < m → (n == m) ≡ false
apart n m p = grind (arith, common_steps, p)

goes-on : (s : Scenario) (st : State) (l : ℕ) → Reached s st → CanGo s st l → st.entries < limit s → ended_now s st ≡ None
goes-on s st l r g room =
    sym (ended_runs s st (runs_reached s st l r g))
    ∙ ap (λ (b : Bool). cond b (Some ended.Budget) None) (apart st.entries (limit s) room)

last-lane : (l last : ℕ) → 1 ≤ l → l ≡ last_after l last
last-lane zero last p = absurd (omega (arith, p))
last-lane (suc l) last p = refl

taken : (s : Scenario) (st : State) (picks : List ℕ) (tried last : ℕ) (c : Chosen) (e : Entry) (new : State) (a b : List ℕ) → Reached s st → st.entries < limit s → CanGo s st c.lane
    → HasTurn s st (drop tried picks) last c.lane (drop c.tried picks) → Goes s st c.lane e new a b → TakesTurn s st picks tried last c e new a b
taken s st picks tried last c e new a b r room g h w = record {
  turn = record {
    goes_on = goes-on s st c.lane r g room;
    turn = h.turn (sym (runs_reached s st c.lane r g)) ∙ ap (λ (l : ℕ). at l) (sym w.next.by);
    next = subst (λ (l : ℕ). IsNext s st l e new) (sym w.next.by) w.next;
    follows = last-lane c.lane last g.0 ∙ ap (λ (l : ℕ). last_after l last) (sym w.next.by);
  };
  is_lane = g.1;
  steps_are = w.steps_are ∙ ap (λ (l : ℕ). served_in s st l a) (sym w.next.by);
}
  where
    at : ℕ → Option Turn
    at l = Some (record { lane = l; picks = drop c.tried picks })

pub turn_of_pick : (s : Scenario) (st : State) (picks : List ℕ) (tried last : ℕ) (x : Option Chosen) (c : Chosen) (e : Entry) (new : State) (a b : List ℕ) → Reached s st → st.entries < limit s
    → x ≡ Some c → PickTried s st picks tried x e new a b → TakesTurn s st picks tried last c e new a b
turn_of_pick s st picks tried last x c e new a b r room is t =
    let w : WasPicked s st picks tried c e new a b = subst (λ (y : Option Chosen). PickTried s st picks tried y e new a b) is t in
    taken s st picks tried last c e new a b r room w.can (has_picked s st (drop tried picks) (drop c.tried picks) last c.lane w.first) w.goes

none-picked : (s : Scenario) (st now : State) (picks : List ℕ) (tried : ℕ) (x : Option Chosen) (f : Entry) (a b : List ℕ) → x ≡ None → PickTried s st picks tried x f now a b → NonePicked s st picks tried now a b
none-picked s st now picks tried x f a b is t = subst (λ (y : Option Chosen). PickTried s st picks tried y f now a b) is t

lane-seen : (r s : Scenario) (st now : State) (last : ℕ) (x : Option ℕ) (e : Entry) (new : State) (a b c : List ℕ) → r ≡ s → Still st now a b
    → LaneTried r now (lanes_after r last) x e new b c → LaneTried s st (lanes_after s last) x e new a c
lane-seen r s st now last x e new a b c same still w =
    subst (λ (k : Scenario). LaneTried s st (lanes_after k last) x e new a c) same (lanes-from r s st now (lanes_after r last) x e new a b c same still w)

pub turn_of_lane : (r s : Scenario) (st now : State) (picks : List ℕ) (tried last l n : ℕ) (x : Option Chosen) (y : Option ℕ) (f e : Entry) (new : State) (a b c : List ℕ) → Reached s st → st.entries < limit s
    → r ≡ s → n ≡ length picks → x ≡ None → y ≡ Some l → PickTried s st picks tried x f now a b → LaneTried r now (lanes_after r last) y e new b c
    → TakesTurn s st picks tried last (record { lane = l; tried = n }) e new a c
turn_of_lane r s st now picks tried last l n x y f e new a b c reached room same all none some t w =
    let p : NonePicked s st picks tried now a b = none-picked s st now picks tried x f a b none t in
    let v : WasFirst s st (lanes_after s last) l e new a c = lane-seen r s st now last (Some l) e new a b c same p.still (subst (λ (z : Option ℕ). LaneTried r now (lanes_after r last) z e new b c) some w) in
    taken s st picks tried last (record { lane = l; tried = n }) e new a c reached room v.can (has_round s st picks (drop tried picks) last l n all p.none (sym v.first)) v.goes

pub turn_of_none : (r s : Scenario) (st now : State) (picks : List ℕ) (tried last : ℕ) (x : Option Chosen) (y : Option ℕ) (f e : Entry) (new : State) (a b c : List ℕ) → last ≤ lanes s
    → r ≡ s → x ≡ None → y ≡ None → PickTried s st picks tried x f now a b → LaneTried r now (lanes_after r last) y e new b c → NoTurn s st new a c
turn_of_none r s st now picks tried last x y f e new a b c most same none nothing t w =
    let p : NonePicked s st picks tried now a b = none-picked s st now picks tried x f a b none t in
    let v : NoneFirst s st (lanes_after s last) new a c = lane-seen r s st now last None e new a b c same p.still (subst (λ (z : Option ℕ). LaneTried r now (lanes_after r last) z e new b c) nothing w) in
    record { none = none_can s st last most (sym v.none); still = v.still }
