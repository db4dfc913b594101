-- The moves of an entry over a state that stands for a history, and what they rest on.
use Rattle.std.proofs.Common.{ap, ap₂, subst, sym, ◌∙◌}
use Rattle.std.specs.Prelude.{◌≡◌, refl, ℕ, zero, suc, ◌+◌, cond, ◌==◌, List, [], ◌∷◌, ◌++◌, Option, Some, None, slice_index_or}
use Rattle.com_base.specs.declared.value.RefValue.{RefValue}
use Rattle.com_body.specs.declared.frame.Outcome.{Outcome}
use Rattle.com_model.specs.declared.deeds.Deed.{Deed}
use Rattle.com_model.specs.declared.deeds.Deed.TheVariants as deed
use Rattle.com_model.specs.declared.deeds.Entry.{Entry}
use Rattle.com_model.specs.declared.scenario.Scenario.{Scenario}
use Rattle.com_model.specs.Formed.{Formed}
use Rattle.com_model.specs.Rules.{legal}
use Rattle.com_model.specs.Tables.{LaneSort, Thread, Host, Pool, NoLane, lane_sort}
use Rattle.com_model.specs.declared.keeps.Opener.{Opener}
use Rattle.com_model.specs.declared.keeps.Opener.TheVariants.{Pumps, Waits, Enters}
use Rattle.com_model.specs.Lists.{one_to}
use Rattle.com_model.specs.Objects.{class_of}
use Rattle.com_model.specs.Apartments.{ends_sta}
use Rattle.com_model.specs.Frames.{Scene, scene, Actor, Body, Script, Nobody, actor, actor_in, Write, ToRegister, ToSlot, ToLink, ToBuffer, writes, to_answer, to_destination, with_frame, written, acting, outcome, acted, arrived}
use Rattle.com_model.specs.Places.{Ground, ground, places_that, left_value}
use Rattle.com_model.specs.State.{State, LanesStand, StandsFor, ground_in, scene_in, class_in, issue_in, home_in, actor_of, after}
use Rattle.com_model.proofs.Sights.{same-scene, same-class, same-ground}
use Rattle.com_model.proofs.Lanes.{lanes-after}
use Rattle.com_model.proofs.Rowed.{after-rows}
use Rattle.com_model.proofs.Whole.{whole-after}
use Rattle.com_model.proofs.Kept.{legal-bounded}
use Rattle.com_laws_balance.proofs.Moves.{acting-is}
use Rattle.com_laws_places.specs.Moves.{Move, links_moved, together, counted, moved, all_moved, result_moved, slots_where, slots_of, link_moves, write_moves, writes_moves, acted_moves, arrived_moves, ended_moves, entry_moves, acting_in as acted_by, outcome_in}
use Rattle.com_laws_places.proofs.Laws.{legal-places}
use Rattle.com_state.specs.After.{acting_in, step_in, actor_after}
use Rattle.com_state.specs.Parts.{objects_of, calls_of}
use Rattle.com_reference_moves.specs.Tables.{moves_by, moves_in, ground_at, moves_at, PlacesMoveIn}

pub moves-history : (s : Scenario) (st : State) (h : List Entry) (e : Entry) → legal s (e ∷ h) → StandsFor s st h → moves_in s st e ≡ entry_moves s h e
moves-history s st h e q p =
    let g : ground_in s st ≡ ground s h = same-ground s st h p.lanes p.apartments p.objects p.calls in
    let w : scene_in st ≡ scene s h = same-scene (scene_in st) (scene s h) p.scene in
    let k : class_in st ≡ class_of h = same-class st h p.objects in
    let n : LanesStand s (after s st e.lane e.deed) (e ∷ h) = subst (λ (x : State). LanesStand s x (e ∷ h)) (after-rows s st e.lane e.deed) (lanes-after s st h e.lane e.deed q.1 p.lanes) in
    let u : acting_in s st e ≡ acted_by s h e = λ i. acting s (k i) (λ c. p.calls.issues c i) (w i) (actor (lane_sort s e.lane) e.lane (p.lanes.openers e.lane i)) e.deed in
    let r : step_in s st e ≡ outcome_in s h e = λ i. outcome s (k i) (λ c. p.calls.issues c i) (w i) (u i) in
    let b : actor_after s st e ≡ actor_in s (e ∷ h) e.lane = λ i. actor (lane_sort s e.lane) e.lane (n.openers e.lane i) in
    λ i. moves_by (g i) (w i) (u i) (r i) (b i) e

pub moves-places : (s : Scenario) (st : State) (h : List Entry) (e : Entry) → Formed s → legal s (e ∷ h) → StandsFor s st h → PlacesMoveIn s st e
moves-places s st h e f q p =
    let n : StandsFor s (after s st e.lane e.deed) (e ∷ h) = subst (λ (x : State). StandsFor s x (e ∷ h)) (after-rows s st e.lane e.deed) (whole-after s st h e.lane e.deed q (legal-bounded s (e ∷ h) f q) p) in
    let g : ground_in s st ≡ ground s h = same-ground s st h p.lanes p.apartments p.objects p.calls in
    let w : scene_in st ≡ scene s h = same-scene (scene_in st) (scene s h) p.scene in
    let g2 : ground_in s (after s st e.lane e.deed) ≡ ground s (e ∷ h) = same-ground s (after s st e.lane e.deed) (e ∷ h) n.lanes n.apartments n.objects n.calls in
    let w2 : scene_in (after s st e.lane e.deed) ≡ scene s (e ∷ h) = same-scene (scene_in (after s st e.lane e.deed)) (scene s (e ∷ h)) n.scene in
    let m : moves_in s st e ≡ entry_moves s h e = moves-history s st h e q p in
    λ a t.
    let x : places_that s (ground_in s (after s st e.lane e.deed)) (scene_in (after s st e.lane e.deed)) a t + counted (moves_in s st e).lost a t ≡ places_that s (ground s (e ∷ h)) (scene s (e ∷ h)) a t + counted (entry_moves s h e).lost a t = λ i. places_that s (g2 i) (w2 i) a t + counted (m i).lost a t in
    let y : places_that s (ground_in s st) (scene_in st) a t + counted (moves_in s st e).gained a t ≡ places_that s (ground s h) (scene s h) a t + counted (entry_moves s h e).gained a t = λ i. places_that s (g i) (w i) a t + counted (m i).gained a t in
    x ∙ legal-places s h e f q a t ∙ sym y

-- ---- what the moves look at

-- A script acts in its own lane alone.
abbrev OfLane : ℕ → Actor → Type 0
OfLane l (Body c o) = Unit {0}
OfLane l (Script m) = m ≡ l
OfLane l Nobody = Unit {0}

of-lane : (sort : LaneSort) (l : ℕ) (os : List Opener) → OfLane l (actor sort l os)
of-lane Thread l [] = refl
of-lane Host l [] = tt
of-lane Pool l [] = tt
of-lane NoLane l [] = tt
of-lane sort l (Pumps n ∷ os) = tt
of-lane sort l (Waits c ∷ os) = tt
of-lane sort l (Enters c o a ∷ os) = tt

abbrev with_home : Ground → (ℕ → Option ℕ) → Ground
with_home g f = record g { home = f }

same-where : (g : Ground) (f k : ℕ → Option ℕ) (l : ℕ) (a : Actor) → f l ≡ k l → OfLane l a → slots_where (with_home g f) a ≡ slots_where (with_home g k) a
same-where g f k l (Body c o) e m = refl
same-where g f k l (Script j) e m = ap f m ∙ e ∙ sym (ap k m)
same-where g f k l Nobody e m = refl

same-links : (g : Ground) (f k : ℕ → Option ℕ) (w : Scene) (a : Actor) (n : ℕ) (held : Option RefValue) → link_moves (with_home g f) w a n held ≡ link_moves (with_home g k) w a n held
same-links g f k w (Body c o) n held = refl
same-links g f k w (Script j) n held = refl
same-links g f k w Nobody n held = refl

same-write : (g : Ground) (f k : ℕ → Option ℕ) (l : ℕ) (w : Scene) (a : Actor) (x : Write) → f l ≡ k l → OfLane l a → write_moves (with_home g f) w a x ≡ write_moves (with_home g k) w a x
same-write g f k l w a (ToRegister n v) e m = refl
same-write g f k l w a (ToSlot n held) e m = ap (λ (p : Option ℕ). record { lost = moved p (slice_index_or (slots_of w a) n None); gained = moved p held }) (same-where g f k l a e m)
same-write g f k l w a (ToLink n held) e m = same-links g f k w a n held
same-write g f k l w a (ToBuffer n bytes) e m = refl

same-writes : (g : Ground) (f k : ℕ → Option ℕ) (l : ℕ) (w : Scene) (a : Actor) (xs : List Write) → f l ≡ k l → OfLane l a → writes_moves (with_home g f) w a xs ≡ writes_moves (with_home g k) w a xs
same-writes g f k l w a [] e m = refl
same-writes g f k l w a (x ∷ xs) e m = ap₂ together (same-write g f k l w a x e m) (same-writes g f k l (written a w x) a xs e m)

same-acted : (g : Ground) (f k : ℕ → Option ℕ) (l : ℕ) (w : Scene) (a : Actor) (r : Option Outcome) (d : Deed) → f l ≡ k l → OfLane l a → acted_moves (with_home g f) w a r d ≡ acted_moves (with_home g k) w a r d
same-acted g f k l w a None d e m = refl
same-acted g f k l w a (Some r) d e m = same-writes g f k l (with_frame a r w) a (writes r.action d) e m

same-arrived : (g : Ground) (f k : ℕ → Option ℕ) (l : ℕ) (w : Scene) (b : Actor) (d : Deed) → f l ≡ k l → OfLane l b → arrived_moves (with_home g f) w b l d ≡ arrived_moves (with_home g k) w b l d
same-arrived g f k l w b (deed.Back c hr v) e m = ap (together (record { lost = result_moved g c (left_value (g.left c)); gained = [] })) (same-writes g f k l w b (to_answer hr ∷ to_destination (w.destinations c) v) e m)
same-arrived g f k l w b (deed.Uninit a zero) e m = ap (λ (p : Option ℕ). record { lost = all_moved p (w.scripts l).slots; gained = [] }) e
same-arrived g f k l w b (deed.Uninit a (suc n)) e m = refl
same-arrived g f k l w b (deed.Leave c hr v bytes) e m = refl
same-arrived g f k l w b (deed.Enter c o a n vs) e m = refl
same-arrived g f k l w b (deed.Final o) e m = refl
same-arrived g f k l w b _ e m = refl

same-links-moved : (g : Ground) (f k : ℕ → Option ℕ) (w : Scene) (a : ℕ) (os : List ℕ) → links_moved (with_home g f) w a os ≡ links_moved (with_home g k) w a os
same-links-moved g f k w a [] = refl
same-links-moved g f k w a (o ∷ os) = ap (λ (ms : List Move). cond (g.named o == a) (all_moved (Some a) (w.cells o).links) [] ++ ms) (same-links-moved g f k w a os)

same-ended : (g : Ground) (f k : ℕ → Option ℕ) (w : Scene) (x : Option ℕ) → ended_moves (with_home g f) w x ≡ ended_moves (with_home g k) w x
same-ended g f k w None = refl
same-ended g f k w (Some a) = ap (λ (ms : List Move). record { lost = ms; gained = [] }) (same-links-moved g f k w a (one_to g.objects))

same-moves : (g : Ground) (f k : ℕ → Option ℕ) (w : Scene) (a : Actor) (r : Option Outcome) (b : Actor) (e : Entry) → f e.lane ≡ k e.lane → OfLane e.lane a → OfLane e.lane b → moves_by (with_home g f) w a r b e ≡ moves_by (with_home g k) w a r b e
same-moves g f k w a r b e p m n =
    ap₂ together (same-acted g f k e.lane w a r e.deed p m)
    (ap₂ together (same-arrived g f k e.lane (acted a r e.deed w) b e.deed p n)
    (same-ended g f k (arrived b e.lane e.deed (acted a r e.deed w)) (ends_sta e.deed)))

pub moves-tables : (s : Scenario) (st : State) (e : Entry) → moves_in s st e ≡ moves_at (home_in s st e.lane) (objects_of st) (calls_of st) st.scene (acting_in s st e) (step_in s st e) (actor_after s st e) e
moves-tables s st e =
    let g : Ground = ground_at None (objects_of st) (calls_of st) in
    let m : OfLane e.lane (acting_in s st e) = acting-is (OfLane e.lane) s (class_in st) (issue_in st) (scene_in st) (actor_of s st e.lane) e.deed (of-lane (lane_sort s e.lane) e.lane _) tt in
    same-moves g (home_in s st) (λ l. home_in s st e.lane) (scene_in st) (acting_in s st e) (step_in s st e) (actor_after s st e) e refl m (of-lane (lane_sort s e.lane) e.lane _)
