-- The next entry of a lane, by the tables of a runtime.
use Rattle.std.proofs.Common.{◌≡◌, ℕ, zero, suc, ◌<◌, ◌≤◌, Bool, false, cond, List, [], Option, Some, None, refl, sym, ◌∙◌, ap, subst, arith}
use Rattle.std.proofs.lemmas.Bool.{false_from_ne_true}
use Rattle.std.proofs.lemmas.Grind.{common_steps}
use Rattle.std.specs.Prelude.{is_some, option_map, ◌==◌}
use Rattle.com_model.specs.declared.deeds.Deed.{Deed}
use Rattle.com_model.specs.declared.deeds.Deed.TheVariants as deed
use Rattle.com_model.specs.declared.deeds.Entry.{Entry}
use Rattle.com_model.specs.declared.scenario.Scenario.{Scenario}
use Rattle.com_model.specs.Ends.{last_after}
use Rattle.com_model.specs.Rules.{lane_next, next, next_by, tick_time, ticks}
use Rattle.com_model.specs.Sight.{Sight}
use Rattle.com_model.specs.State.{State, sight_of}
use Rattle.com_model.specs.Tables.{LaneSort, Thread, Host, Pool, NoLane, lane_sort, lanes}
use Rattle.com_model.proofs.Lanes.{lane-within}
use Rattle.com_model.proofs.Sights.{same-next}
use Rattle.com_runtime.specs.declared.runtime.Standing.TheVariants as standing
use Rattle.com_runtime.specs.Standings.{can_step_in, none_can_in, standing_of, HasTurn, Reached}
use Rattle.com_runtime.specs.Turns.{IsNext}
use Rattle.com_runtime.proofs.Choices.{not_runs, turn_ticks}
use Rattle.com_check.specs.Judging.{lane_of_turn}
use Rattle.com_check.specs.Turning.{entry_in, IsScheduled}

abbrev at : ℕ → Deed → Entry
at l d = record { lane = l; deed = d }

pub entry_made : (s : Scenario) (st new : State) (l : ℕ) (e : Entry) → IsNext s st l e new → entry_in s st l ≡ Some e
unfolding entry_in
entry_made s st new l e p = ap (option_map (at l)) p.deed ∙ ap (λ (k : ℕ). Some (at k e.deed)) (sym p.by)

-- ---- lanes that have none

none-beyond : (s : Scenario) (h : List Entry) (l : ℕ) (x : Option Deed) → next s h l ≡ x → lanes s < l → x ≡ None
none-beyond s h l None e p = refl
none-beyond s h l (Some d) e p = absurd (let q : l ≤ lanes s = lane-within s h l d e in omega (arith, p, q))

pub none_above : (s : Scenario) (st : State) (l : ℕ) → Reached s st → lanes s < l → entry_in s st l ≡ None
unfolding Reached entry_in
none_above s st l r p =
    ap (option_map (at l)) (same-next s st r.1.0 l r.1.1 ∙ none-beyond s r.1.0 l (next s r.1.0 l) refl p)

no-deed : (x : Option Deed) → is_some x ≡ false → x ≡ None
no-deed None e = refl
no-deed (Some d) e = cc

not-zero : (n : ℕ) → 1 ≤ n → (n == 0) ≡ false
not-zero n h = grind (arith, common_steps, h)

by-sort : (s : Scenario) (v : Sight) (sort : LaneSort) (l : ℕ) → 1 ≤ l → lane_next s v l ≡ None → next_by s v sort l ≡ None
by-sort s v NoLane l p e = ap (λ (b : Bool). cond b (ticks s v) None) (not-zero l p)
by-sort s v Thread l p e = e
by-sort s v Host l p e = e
by-sort s v Pool l p e = e

pub none_still : (s : Scenario) (st : State) (l : ℕ) → 1 ≤ l → false ≡ can_step_in s st l → entry_in s st l ≡ None
unfolding can_step_in entry_in
none_still s st l p e =
    ap (option_map (at l)) (by-sort s (sight_of s st) (lane_sort s l) l p (no-deed (lane_next s (sight_of s st) l) (sym e)))

pub no_tick : (s : Scenario) (st : State) → standing.Runs ≡ standing_of s st → entry_in s st 0 ≡ None
unfolding none_can_in entry_in
no_tick s st e =
    ap (λ (b : Bool). option_map (at 0) (cond b (option_map (λ (t : ℕ). deed.Tick t) (tick_time (sight_of s st))) None))
    (false_from_ne_true (none_can_in s st) (not_runs s st e))

-- ---- the schedule's

pub lane_scheduled : (s : Scenario) (st new : State) (left : List ℕ) (last l : ℕ) (e : Entry) → standing.Runs ≡ standing_of s st
    → HasTurn s st [] last l left → IsNext s st l e new → IsScheduled s st last e new
lane_scheduled s st new left last l e r t p = record {
  turn = ap lane_of_turn (t.turn (sym r)) ∙ ap (λ (k : ℕ). Some k) (sym p.by);
  next = subst (λ (k : ℕ). IsNext s st k e new) (sym p.by) p;
}

pub clock_scheduled : (s : Scenario) (st new : State) (last : ℕ) (e : Entry) → standing.Ticks ≡ standing_of s st → IsNext s st 0 e new
    → IsScheduled s st last e new
clock_scheduled s st new last e t p = record {
  turn = ap lane_of_turn (turn_ticks s st [] last (sym t)) ∙ ap (λ (k : ℕ). Some k) (sym p.by);
  next = subst (λ (k : ℕ). IsNext s st k e new) (sym p.by) p;
}

-- ---- the last lane

pub last_clock : (l last : ℕ) → l ≡ 0 → last ≡ last_after l last
last_clock zero last e = refl
last_clock (suc l) last e = absurd (omega (arith, e))

pub last_other : (l last : ℕ) → (l ≡ 0 → ⊥) → l ≡ last_after l last
last_other zero last p = absurd (p refl)
last_other (suc l) last p = refl
