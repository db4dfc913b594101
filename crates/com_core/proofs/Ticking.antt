-- The clock's entry is the next one of its lane, and is nobody's step.
use Rattle.std.proofs.Common.{◌≡◌, ℕ, refl, ap, sym, ◌∙◌, subst, eqb-true}
use Rattle.std.specs.Prelude.{Bool, true, false, not, cond, ◌==◌, ◌&&◌, List, [], ◌∷◌, Option, Some, None, is_none, option_map}
use Rattle.com_refs_books.specs.Changes.{Books}
use Rattle.com_calls.specs.Kept.{with_tables}
use Rattle.com_calls.specs.Waits.{next_wait}
use Rattle.com_model.specs.declared.deeds.Deed.{Deed}
use Rattle.com_model.specs.declared.deeds.Deed.TheVariants as deed
use Rattle.com_model.specs.declared.deeds.Entry.{Entry}
use Rattle.com_model.specs.declared.keeps.Opener.{Opener}
use Rattle.com_model.specs.declared.scenario.Scenario.{Scenario}
use Rattle.com_model.specs.Ends.{finished_by}
use Rattle.com_model.specs.Frames.{Actor, Nobody, actor, acting, outcome}
use Rattle.com_model.specs.Openers.{Keeps, effect, opened, openers}
use Rattle.com_model.specs.Rules.{legal, next, no_lane_can, tick_time}
use Rattle.com_model.specs.State.{State, openers_in, next_of, sight_of, class_in, issue_in, scene_in}
use Rattle.com_model.specs.Tables.{lane_sort}
use Rattle.com_parts.specs.Tables.{PartTables}
use Rattle.com_state.specs.After.{acting_in, actor_after}
use Rattle.com_runtime.specs.declared.runtime.Standing.TheVariants as standing
use Rattle.com_runtime.specs.Standings.{standing_of}
use Rattle.com_core.specs.Stands.{IsReached, Stands, IsGiven}
use Rattle.com_core.proofs.OpenBodies.{IsTick, clock_ticks}

-- ---- nothing is open in the clock's lane

keeps-open : (b : Bool) (d : Deed) (os : List Opener) → IsTick d → os ≡ [] → opened (cond b (effect d) Keeps) os ≡ []
keeps-open true d os t e = ap (λ (x : Deed). opened (effect x) os) t.is ∙ e
keeps-open false d os t e = e

other-open : (l : ℕ) (d : Deed) (os : List Opener) → (l == 0) ≡ false → os ≡ [] → opened (cond (l == 0) (effect d) Keeps) os ≡ []
other-open l d os n e = ap (λ (b : Bool). opened (cond b (effect d) Keeps) os) n ∙ e

closed-by : (s : Scenario) (h : List Entry) (e : Entry) → legal s (e ∷ h) → openers h 0 ≡ [] → openers (e ∷ h) 0 ≡ []
closed-by s h e q p =
    elim (e.lane == 0) as (λ b. (e.lane == 0) ≡ b → openers (e ∷ h) 0 ≡ []) [
      | true ↦ λ z. keeps-open (e.lane == 0) e.deed (openers h 0) (clock_ticks s h e.deed (subst (λ (l : ℕ). next s h l ≡ Some e.deed) (eqb-true e.lane 0 z) q.1)) p
      | false ↦ λ z. other-open e.lane e.deed (openers h 0) z p
    ] refl

clock-closed : (s : Scenario) (h : List Entry) → legal s h → openers h 0 ≡ []
clock-closed s [] q = refl
clock-closed s (e ∷ h) q = closed-by s h e q (clock-closed s h q.0)

-- The clock's entry is nobody's step, and issues no call.
pub clock_given : (s : Scenario) (st : State) (t : ℕ) (follows : Actor) → IsReached s st → follows ≡ actor_after s st (record { lane = 0; deed = deed.Tick t })
    → IsGiven s st (record { lane = 0; deed = deed.Tick t }) Nobody None follows false None
clock_given s st t follows r e =
    let v : Entry = record { lane = 0; deed = deed.Tick t } in
    let none : openers_in st 0 ≡ [] = r.stands.lanes.openers 0 ∙ clock-closed s r.history r.stands.lawful in
    let nobody : acting_in s st v ≡ Nobody = ap (λ (os : List Opener). acting s (class_in st) (issue_in st) (scene_in st) (actor (lane_sort s 0) 0 os) (deed.Tick t)) none in
    record {
      acts = sym nobody;
      step = sym (ap (λ (a : Actor). outcome s (class_in st) (issue_in st) (scene_in st) a) nobody);
      next = e;
      filter = refl;
      sent = refl;
    }

-- ---- the next entry of the clock's lane

goes-on : (f c : Bool) (t : Option ℕ) → cond f standing.Finished (cond (c && (is_none t && not f)) standing.Stuck (cond c standing.Ticks standing.Runs)) ≡ standing.Ticks → c ≡ true
goes-on true c t e = cc
goes-on false true t e = refl
goes-on false false t e = cc

stands-still : (s : Scenario) (st : State) → standing_of s st ≡ standing.Ticks → no_lane_can s (sight_of s st) ≡ true
unfolding standing_of
stands-still s st e = goes-on (finished_by s (sight_of s st)) (no_lane_can s (sight_of s st)) (tick_time (sight_of s st)) e

waits-for : (f c : Bool) (t : Option ℕ) → cond f standing.Finished (cond (c && (is_none t && not f)) standing.Stuck (cond c standing.Ticks standing.Runs)) ≡ standing.Ticks → t ≡ None → ⊥
waits-for true c t e n = cc
waits-for false true None e n = cc
waits-for false true (Some x) e n = cc
waits-for false false t e n = cc

-- Where the clock goes on, a call waits for a time.
pub time_waits : (s : Scenario) (st : State) (p : PartTables) (b : Books) (fallen : List ℕ) (clock : ℕ) → Stands st p b fallen clock → standing_of s st ≡ standing.Ticks
    → next_wait p.calls clock ≡ None → ⊥
unfolding standing_of
time_waits s st p b fallen clock h e w =
    let none : tick_time (sight_of s st) ≡ None = sym (λ i. next_wait (with_tables p.calls (h.calls i)) (h.clock_is i)) ∙ w in
    waits-for (finished_by s (sight_of s st)) (no_lane_can s (sight_of s st)) (tick_time (sight_of s st)) e none

pub tick_next : (s : Scenario) (st : State) (p : PartTables) (b : Books) (fallen : List ℕ) (clock t : ℕ) → Stands st p b fallen clock → standing_of s st ≡ standing.Ticks
    → next_wait p.calls clock ≡ Some t → next_of s st 0 ≡ Some (deed.Tick t)
tick_next s st p b fallen clock t h e w =
    let time : tick_time (sight_of s st) ≡ Some t = sym (λ i. next_wait (with_tables p.calls (h.calls i)) (h.clock_is i)) ∙ w in
    ap (λ (c : Bool). cond c (option_map (λ (x : ℕ). deed.Tick x) (tick_time (sight_of s st))) None) (stands-still s st e)
    ∙ ap (λ (x : Option ℕ). option_map (λ (y : ℕ). deed.Tick y) x) time
