-- A state that stands for a history is at rest.
use Rattle.std.proofs.Common.{◌≡◌, refl, sym, ◌∙◌, ap, subst, arith, ℕ, zero, suc, ◌+◌, ◌≤◌, length, Bool, true, false, cond, ◌==◌, List, [], ◌∷◌, eqb-true}
use Rattle.std.proofs.lemmas.List.{get_or_past}
use Rattle.com_model.specs.Lists.{from_one}
use Rattle.std.specs.Prelude.{Option, Some, None, option_map}
use Rattle.com_model.specs.declared.deeds.Deed.{Deed}
use Rattle.com_model.specs.declared.deeds.Deed.TheVariants as deed
use Rattle.com_model.specs.declared.deeds.Entry.{Entry}
use Rattle.com_model.specs.declared.scenario.Scenario.{Scenario}
use Rattle.com_model.specs.Tables.{LaneSort, NoLane, lane_sort}
use Rattle.com_model.specs.Openers.{Effect, Keeps, effect, opened, openers}
use Rattle.com_model.specs.Rules.{legal, next, next_by, no_lane_can, tick_time}
use Rattle.com_model.specs.Sight.{sight}
use Rattle.com_model.specs.State.{State, StandsFor}
use Rattle.com_model.proofs.Given.{Given}
use Rattle.com_state.proofs.Settles.{settled-stands}
use Rattle.com_laws_unchanged.specs.Resting.{Resting}

-- In a lane that is no thread's, host's or pool's only a Tick is made.
keeps-tick : (b d : Bool) (t : Option ℕ) → Given (λ x. effect x ≡ Keeps) (cond b (cond d (option_map (λ n. deed.Tick n) t) None) None)
keeps-tick true true None = tt
keeps-tick true true (Some n) = refl
keeps-tick true false t = tt
keeps-tick false d t = tt

idle-lanes : (s : Scenario) (h : List Entry) (l : ℕ) → legal s h → lane_sort s l ≡ NoLane → openers h l ≡ []
idle-lanes s [] l p q = refl
idle-lanes s (e ∷ h) l p q = by-lane (e.lane == l) refl (idle-lanes s h l p.0 q)
  where
    own : e.lane ≡ l → effect e.deed ≡ Keeps
    own z =
        let g : Given (λ x. effect x ≡ Keeps) (next s h e.lane) = subst (λ (x : LaneSort). Given (λ y. effect y ≡ Keeps) (next_by s (sight s h) x e.lane)) (sym (ap (lane_sort s) z ∙ q)) (keeps-tick (e.lane == 0) (no_lane_can s (sight s h)) (tick_time (sight s h))) in
        subst (λ (x : Option Deed). Given (λ y. effect y ≡ Keeps) x) p.1 g

    by-lane : (b : Bool) → (e.lane == l) ≡ b → openers h l ≡ [] → opened (cond (e.lane == l) (effect e.deed) Keeps) (openers h l) ≡ []
    by-lane true z none = ap (λ (b : Bool). opened (cond b (effect e.deed) Keeps) (openers h l)) z ∙ ap (λ (x : Effect). opened x (openers h l)) (own (eqb-true e.lane l z)) ∙ none
    by-lane false z none = ap (λ (b : Bool). opened (cond b (effect e.deed) Keeps) (openers h l)) z ∙ none

none-past : {X : Type 0} (xs : List (Option X)) (n : ℕ) → length xs ≡ n → (c : ℕ) → n + 1 ≤ c → from_one xs c None ≡ None
none-past xs n e zero h = refl
none-past xs n e (suc c) h = get_or_past xs c None (omega (arith, e, h))

pub resting-stands : (s : Scenario) (st : State) (h : List Entry) → StandsFor s st h → Resting s st
resting-stands s st h p = record {
  settled = settled-stands s st h p;
  idle = λ l e. p.lanes.openers l ∙ idle-lanes s h l p.lawful e;
  unissued = none-past st.admissions (length st.issues) (p.calls.rows.0 ∙ sym p.calls.number);
}
