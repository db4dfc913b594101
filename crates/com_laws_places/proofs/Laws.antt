-- The law of places: what an entry takes from places and brings to places is all that it changes of them.
use Rattle.std.proofs.Common.{arith}
use Rattle.std.specs.Prelude.{◌≡◌, refl, ℕ, zero, suc, ◌+◌, List, ◌∷◌, ◌++◌, Option}
use Rattle.com_body.specs.declared.frame.Outcome.{Outcome}
use Rattle.com_body.specs.Frames.{entered}
use Rattle.com_model.specs.declared.deeds.Deed.{Deed}
use Rattle.com_model.specs.declared.deeds.Deed.TheVariants as deed
use Rattle.com_model.specs.declared.deeds.Entry.{Entry}
use Rattle.com_model.specs.declared.scenario.Scenario.{Scenario}
use Rattle.com_model.specs.Apartments.{ends_sta, home}
use Rattle.com_model.specs.Objects.{class_of, objects, named}
use Rattle.com_model.specs.Calls.{issue}
use Rattle.com_model.specs.Frames.{Scene, scene, Actor, actor_in, to_answer, to_destination}
use Rattle.com_model.specs.Places.{Ground, ground, Test, left_value, places_that}
use Rattle.com_model.specs.Rules.{legal}
use Rattle.com_model.specs.Formed.{Formed}
use Rattle.com_model.proofs.Kept.{legal-kept}
use Rattle.com_laws_balance.proofs.Bases.{S0, B0, I_of, L_of}
use Rattle.com_laws_balance.proofs.Directs.{out-base}
use Rattle.com_laws_places.specs.Moves.{Moves, counted, result_moved, writes_moves, acted_moves, arrived_moves, ended_moves, acting_in, outcome_in, after_acting, after_arriving, PlacesMove}
use Rattle.com_laws_places.proofs.Ranges.{FitsOut, outcome-fits}
use Rattle.com_laws_places.proofs.Wholes.{Whole, acted-whole, scene-whole}
use Rattle.com_laws_places.proofs.Counted.{counted-both, counted-slots}
use Rattle.com_laws_places.proofs.Writes.{Moved}
use Rattle.com_laws_places.proofs.Acts.{acted-move}
use Rattle.com_laws_places.proofs.Arrives.{scene_moves, arrived-move}
use Rattle.com_laws_places.proofs.Cuts.{cut-move}
use Rattle.com_laws_places.proofs.Scripts.{HomesStay, homes-stay, scripts-stay}
use Rattle.com_laws_places.proofs.Bodies.{FrameOf, entered_slots, bodies-move}
use Rattle.com_laws_places.proofs.Links.{NoneYet, links-stay}
use Rattle.com_laws_places.proofs.Results.{result_moves, results-move}
use Rattle.com_laws_places.proofs.Facts.{acting-stands, arrives-at, openers-move, frame-of, none-yet, not-first}

-- ---- what arrives, in the scene and on the way

lost-parts : (g : Ground) (w : Scene) (b : Actor) (l : ℕ) (d : Deed) (a : ℕ) (t : Test) → counted (arrived_moves g w b l d).lost a t ≡ counted (scene_moves g w b l d).lost a t + counted (result_moves g d).lost a t
lost-parts g w b l (deed.Leave c hr v bytes) a t = omega arith
lost-parts g w b l (deed.Enter c o x k vs) a t = refl
lost-parts g w b l (deed.Back c hr v) a t =
    omega (arith, counted-both (result_moved g c (left_value (g.left c))) (writes_moves g w b (to_answer hr ∷ to_destination (w.destinations c) v)).lost a t)
lost-parts g w b l (deed.Uninit x zero) a t = omega arith
lost-parts g w b l (deed.Uninit x (suc n)) a t = refl
lost-parts g w b l (deed.Final o) a t = omega arith
lost-parts g w b l _ a t = refl

gained-parts : (g : Ground) (w : Scene) (b : Actor) (l : ℕ) (d : Deed) (a : ℕ) (t : Test) → counted (arrived_moves g w b l d).gained a t ≡ counted (scene_moves g w b l d).gained a t + (entered_slots a t d + counted (result_moves g d).gained a t)
gained-parts g w b l (deed.Leave c hr v bytes) a t = omega arith
gained-parts g w b l (deed.Enter c o x k vs) a t = omega (arith, counted-slots x (entered vs).slots a t)
gained-parts g w b l (deed.Back c hr v) a t = omega arith
gained-parts g w b l (deed.Uninit x zero) a t = refl
gained-parts g w b l (deed.Uninit x (suc n)) a t = refl
gained-parts g w b l (deed.Final o) a t = refl
gained-parts g w b l _ a t = refl

-- ---- the ground

all-parts : (x y z u v p q r o n m : ℕ) → v ≡ x → p ≡ y + n → q ≡ z → r + o ≡ u + m → v + p + q + r + o ≡ x + y + z + u + (n + m)
all-parts x y z u v p q r o n m e f g h = omega (arith, e, f, g, h)

ground-move : (s : Scenario) (h : List Entry) (l : ℕ) (d : Deed) (w : Scene) (a : ℕ) (t : Test) → let e : Entry = record { lane = l; deed = d } in
    Formed s → legal s (e ∷ h) → HomesStay (home s h) (home s (e ∷ h)) w → FrameOf w d → NoneYet d (objects h) w
    → places_that s (ground s (e ∷ h)) w a t + counted (result_moves (ground s h) d).lost a t ≡ places_that s (ground s h) w a t + (entered_slots a t d + counted (result_moves (ground s h) d).gained a t)
ground-move s h l d w a t f q homes frame links =
    let e : Entry = record { lane = l; deed = d } in
    all-parts _ _ _ _ _ _ _ _ _ _ _
    (scripts-stay s (ground s h) (ground s (e ∷ h)) w a t homes)
    (bodies-move s (ground s h) (ground s (e ∷ h)) l d w a t (openers-move s h e q) frame)
    (links-stay s h l d w a t f q links)
    (results-move s h l d a t q)

-- ---- an entry

total : (p0 p1 p2 p3 p4 al ag sl sg cl cg rl rg xl xg l g : ℕ) → p1 + al ≡ p0 + ag → p2 + sl ≡ p1 + sg → p3 + cl ≡ p2 + cg → p4 + rl ≡ p3 + rg → xl ≡ sl + rl → xg ≡ sg + rg → l ≡ al + (xl + cl) → g ≡ ag + (xg + cg) → p4 + l ≡ p0 + g
total p0 p1 p2 p3 p4 al ag sl sg cl cg rl rg xl xg l g a b c d e f u v = omega (arith, a, b, c, d, e, f, u, v)

three-lists : (x y z : List _) (a : ℕ) (t : Test) → counted (x ++ (y ++ z)) a t ≡ counted x a t + (counted y a t + counted z a t)
three-lists x y z a t = omega (arith, counted-both x (y ++ z) a t, counted-both y z a t)

entry-places : (s : Scenario) (h : List Entry) (l : ℕ) (d : Deed) → let e : Entry = record { lane = l; deed = d } in Formed s → legal s (e ∷ h) → PlacesMove s h e
entry-places s h l d f q a t =
    let e : Entry = record { lane = l; deed = d } in
    let g : Ground = ground s h in
    let u : Actor = acting_in s h e in
    let r : Option Outcome = outcome_in s h e in
    let b : Actor = actor_in s (e ∷ h) l in
    let w1 : Scene = after_acting s h e in
    let w2 : Scene = after_arriving s h e in
    let w3 : Scene = scene s (e ∷ h) in
    let m : Moves = acted_moves g (scene s h) u r d in
    let n : Moves = arrived_moves g w1 b l d in
    let c : Moves = ended_moves g w2 (ends_sta d) in
    let whole : Whole (scene s h) = scene-whole s h f q.0 in
    let fits : FitsOut r = outcome-fits s f (class_of h) (issue h) (scene s h) u in
    let later : Whole w1 = acted-whole s (S0 s h) (B0 (e ∷ h)) (I_of u) (L_of s h u) u r d (scene s h) (out-base s h e f q) fits whole in
    let first : Moved s g (scene s h) w1 m = acted-move s g (S0 s h) (B0 (e ∷ h)) (I_of u) (L_of s h u) u r d (scene s h) (acting-stands s h e f q.0) (out-base s h e f q) fits whole in
    let second : Moved s g w1 w2 (scene_moves g w1 b l d) = arrived-move s g b l d w1 (arrives-at s h l d f q) later in
    let third : Moved s g w2 w3 c = cut-move s g (ends_sta d) w2 (not-first s h d f q.0) in
    let fourth : places_that s (ground s (e ∷ h)) w3 a t + counted (result_moves g d).lost a t ≡ places_that s g w3 a t + (entered_slots a t d + counted (result_moves g d).gained a t) =
    ground-move s h l d w3 a t f q (homes-stay s h e f q) (frame-of b l d (named h) w1) (none-yet s g u b r l d (named h) (scene s h) (acting-stands s h e f q.0) (legal-kept s h f q.0).scene.no_cells) in
    total (places_that s g (scene s h) a t) (places_that s g w1 a t) (places_that s g w2 a t) (places_that s g w3 a t) (places_that s (ground s (e ∷ h)) w3 a t)
    (counted m.lost a t) (counted m.gained a t) (counted (scene_moves g w1 b l d).lost a t) (counted (scene_moves g w1 b l d).gained a t) (counted c.lost a t) (counted c.gained a t)
    (counted (result_moves g d).lost a t) (entered_slots a t d + counted (result_moves g d).gained a t) (counted n.lost a t) (counted n.gained a t)
    (counted (m.lost ++ (n.lost ++ c.lost)) a t) (counted (m.gained ++ (n.gained ++ c.gained)) a t)
    (first a t) (second a t) (third a t) fourth (lost-parts g w1 b l d a t) (gained-parts g w1 b l d a t) (three-lists m.lost n.lost c.lost a t) (three-lists m.gained n.gained c.gained a t)

pub legal-places : (s : Scenario) (h : List Entry) (e : Entry) → Formed s → legal s (e ∷ h) → PlacesMove s h e
legal-places s h e f q = entry-places s h e.lane e.deed f q
