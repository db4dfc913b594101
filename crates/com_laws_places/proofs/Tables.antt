-- The law of places by the tables of a state that stands for a legal history.
use Rattle.std.proofs.Common.{subst, sym, ◌∙◌}
use Rattle.std.specs.Prelude.{◌≡◌, ℕ, ◌+◌, List, ◌∷◌, Some}
use Rattle.com_model.specs.declared.deeds.Deed.{Deed}
use Rattle.com_model.specs.declared.deeds.Entry.{Entry}
use Rattle.com_model.specs.declared.scenario.Scenario.{Scenario}
use Rattle.com_model.specs.Tables.{lane_sort}
use Rattle.com_model.specs.Objects.{class_of}
use Rattle.com_model.specs.Frames.{scene, actor}
use Rattle.com_model.specs.Places.{ground, places_that}
use Rattle.com_model.specs.Rules.{legal}
use Rattle.com_model.specs.Formed.{Formed}
use Rattle.com_model.specs.State.{State, StandsFor, scene_in, class_in, ground_in, after, next_of}
use Rattle.com_model.proofs.Rowed.{after-rows}
use Rattle.com_model.proofs.Kept.{legal-bounded}
use Rattle.com_model.proofs.Sights.{same-scene, same-class, same-ground, same-next}
use Rattle.com_model.proofs.Whole.{whole-after}
use Rattle.com_laws_places.specs.Moves.{counted, entry_moves}
use Rattle.com_laws_places.specs.Tables.{moves_by, table_moves, TablesMove}
use Rattle.com_laws_places.proofs.Laws.{legal-places}

ground-stands : (s : Scenario) (st : State) (h : List Entry) → StandsFor s st h → ground_in s st ≡ ground s h
ground-stands s st h p = same-ground s st h p.lanes p.apartments p.objects p.calls

scene-stands : (s : Scenario) (st : State) (h : List Entry) → StandsFor s st h → scene_in st ≡ scene s h
scene-stands s st h p = same-scene (scene_in st) (scene s h) p.scene

pub tables-move : (s : Scenario) (st : State) (h : List Entry) (l : ℕ) (d : Deed) → Formed s → StandsFor s st h → next_of s st l ≡ Some d → TablesMove s st l d
tables-move s st h l d f p n a t =
    let e : Entry = record { lane = l; deed = d } in
    let su : State = after s st l d in
    let q : legal s (e ∷ h) = (p.lawful, sym (same-next s st h l p) ∙ n) in
    let z : StandsFor s su (e ∷ h) = subst (λ (x : State). StandsFor s x (e ∷ h)) (after-rows s st l d) (whole-after s st h l d q (legal-bounded s (e ∷ h) f q) p) in
    let k : class_in st ≡ class_of h = same-class st h p.objects in
    let g : ground_in s st ≡ ground s h = ground-stands s st h p in
    let w : scene_in st ≡ scene s h = scene-stands s st h p in
    let gs : ground_in s su ≡ ground s (e ∷ h) = ground-stands s su (e ∷ h) z in
    let ws : scene_in su ≡ scene s (e ∷ h) = scene-stands s su (e ∷ h) z in
    let m : table_moves s st l d ≡ entry_moves s h e = λ i. moves_by s (k i) (g i) (w i) (actor (lane_sort s l) l (p.lanes.openers l i)) (actor (lane_sort s l) l (z.lanes.openers l i)) l d in
    let new : places_that s (ground_in s su) (scene_in su) a t + counted (table_moves s st l d).lost a t ≡ places_that s (ground s (e ∷ h)) (scene s (e ∷ h)) a t + counted (entry_moves s h e).lost a t =
    λ i. places_that s (gs i) (ws i) a t + counted (m i).lost a t in
    let old : places_that s (ground_in s st) (scene_in st) a t + counted (table_moves s st l d).gained a t ≡ places_that s (ground s h) (scene s h) a t + counted (entry_moves s h e).gained a t =
    λ i. places_that s (g i) (w i) a t + counted (m i).gained a t in
    new ∙ legal-places s h e f q a t ∙ sym old
