-- What the scene after an entry's action does to places, where nothing else changes: a body that leaves or is entered, what is
-- written at a Back, a script's slots at the last Uninit, an object's links at its Final.
use Rattle.std.proofs.Common.{subst, sym, arith}
use Rattle.std.specs.Prelude.{◌≡◌, refl, ℕ, zero, suc, ◌+◌, ◌<◌, [], ◌∷◌, Option, Some, None, replicate}
use Rattle.com_body.specs.Frames.{entered}
use Rattle.com_refs_books.specs.Counting.{sum_below}
use Rattle.com_model.specs.declared.deeds.Deed.{Deed}
use Rattle.com_model.specs.declared.deeds.Deed.TheVariants as deed
use Rattle.com_model.specs.declared.scenario.Scenario.{Scenario}
use Rattle.com_model.specs.Answers.{S_OK}
use Rattle.com_model.specs.Tables.{threads, lanes}
use Rattle.com_model.specs.Frames.{Scene, Actor, to_answer, to_destination, arrived}
use Rattle.com_model.specs.Places.{Ground, Test, in_slots, in_bodies}
use Rattle.com_laws_places.specs.Moves.{Moves, all_moved, no_moves, counted, entered_where, writes_moves}
use Rattle.com_laws_places.proofs.Wholes.{Whole, target-writes}
use Rattle.com_laws_places.proofs.Frames.{with_body, open_of, InApartment, body-put, body-closed, script-put, cells-put}
use Rattle.com_laws_places.proofs.Counted.{counted-slots, counted-home, nulls-at, nulls-in}
use Rattle.com_laws_places.proofs.Writes.{BodyStands, Stands, Moved, first-part, second-part, third-part, write-moves, writes-move}

-- A call without open Enter.
pub record Closed (s : Scenario) (g : Ground) (c : ℕ) : Type 0 where
  pub none : sum_below (lanes s + 1) (λ l. open_of c (g.openers l)) ≡ 0
  pub nowhere : (l : ℕ) → l < lanes s + 1 → InApartment c 0 (g.openers l)

pub record Leaves (s : Scenario) (g : Ground) (c : ℕ) : Type 0 where
  pub object : ℕ
  pub stands : BodyStands s g c object

abbrev pub Arrives : Scenario → Ground → Actor → ℕ → Deed → Type 0
Arrives s g b l (deed.Leave c hr v bytes) = Leaves s g c
Arrives s g b l (deed.Enter c o a k vs) = Closed s g c
Arrives s g b l (deed.Back c hr v) = Stands s g b
Arrives s g b l deed.EndPump = Stands s g b
Arrives s g b l (deed.Uninit a zero) = l < threads s + 1
Arrives s g b l (deed.Final o) = o < g.objects + 1
Arrives s g b l _ = Unit {0}

abbrev pub scene_moves : Ground → Scene → Actor → ℕ → Deed → Moves
scene_moves g w b l (deed.Leave c hr v bytes) = record { lost = all_moved (entered_where (g.admitted c)) (w.bodies c).slots; gained = [] }
scene_moves g w b l (deed.Back c hr v) = writes_moves g w b (to_answer hr ∷ to_destination (w.destinations c) v)
scene_moves g w b l (deed.Uninit a zero) = record { lost = all_moved (g.home l) (w.scripts l).slots; gained = [] }
scene_moves g w b l (deed.Final o) = record { lost = all_moved (Some (g.named o)) (w.cells o).links; gained = [] }
scene_moves g w b l _ = no_moves

emptied : (x y k n l : ℕ) → x + k ≡ y + n → n ≡ 0 → l ≡ k → x + l ≡ y + 0
emptied x y k n l p q r = omega (arith, p, q, r)

no-slots : (t : Test) → in_slots t (replicate 8 None) ≡ 0
no-slots t = refl

no-links : (t : Test) → in_slots t (replicate 4 None) ≡ 0
no-links t = refl

pub fresh-slots : (t : Test) → in_slots t (entered []).slots ≡ 0
fresh-slots t = refl

body-leaves : (s : Scenario) (g : Ground) (w : Scene) (c o : ℕ) → BodyStands s g c o → (a : ℕ) (t : Test)
    → in_bodies s g (with_body w c (entered [])) a t + counted (all_moved (entered_where (g.admitted c)) (w.bodies c).slots) a t ≡ in_bodies s g w a t + 0
body-leaves s g w c o p a t =
    subst (λ (x : Option ℕ). in_bodies s g (with_body w c (entered [])) a t + counted (all_moved x (w.bodies c).slots) a t ≡ in_bodies s g w a t + 0) (sym p.entered)
    (emptied _ _ _ _ _ (body-put s g w a c p.apartment t (entered []) p.once) (nulls-in p.apartment a t (entered []).slots (fresh-slots t)) (counted-slots p.apartment (w.bodies c).slots a t))

more-nothing : (x y : ℕ) → x ≡ y → x + 0 ≡ y + 0
more-nothing x y p = omega (arith, p)

pub arrived-move : (s : Scenario) (g : Ground) (b : Actor) (l : ℕ) (d : Deed) (w : Scene) → Arrives s g b l d → Whole w → Moved s g w (arrived b l d w) (scene_moves g w b l d)
arrived-move s g b l (deed.Leave c hr v bytes) w p n = λ a t. second-part _ _ _ _ _ _ _ (body-leaves s g w c p.object p.stands a t)
arrived-move s g b l (deed.Enter c o x k vs) w p n = λ a t. second-part _ _ _ _ _ _ _ (more-nothing _ _ (body-closed s g w a c t (entered vs) p.none p.nowhere))
arrived-move s g b l (deed.Back c hr v) w p n = writes-move s g w b (to_answer hr ∷ to_destination (w.destinations c) v) p n (tt, target-writes (w.destinations c) v (n.targets c))
arrived-move s g b l deed.EndPump w p n = write-moves s g w b (to_answer S_OK) p n tt
arrived-move s g b l (deed.Uninit x zero) w p n = λ a t.
    first-part _ _ _ _ _ _ _ (emptied _ _ _ _ _ (script-put s g w a l t (record (w.scripts l) { slots = replicate 8 None }) p) (nulls-at (g.home l) a t (replicate 8 None) (no-slots t)) (counted-home (g.home l) (w.scripts l).slots a t))
arrived-move s g b l (deed.Uninit x (suc k)) w p n = λ a t. refl
arrived-move s g b l (deed.Final o) w p n = λ a t.
    third-part _ _ _ _ _ _ _ (emptied _ _ _ _ _ (cells-put g w a o t (record (w.cells o) { links = replicate 4 None }) p) (nulls-in (g.named o) a t (replicate 4 None) (no-links t)) (counted-slots (g.named o) (w.cells o).links a t))
arrived-move s g b l _ w p n = λ a t. refl
