-- What a write, and a list of writes, does to places.
use Rattle.std.proofs.Common.{subst, sym, ap, arith}
use Rattle.std.proofs.lemmas.List.{get_or-set_same}
use Rattle.std.specs.Prelude.{◌≡◌, refl, ℕ, ◌+◌, ◌<◌, List, [], ◌∷◌, ◌++◌, Option, Some, None, fold, slice_index_or, slice_set, ◌≤◌, length}
use Rattle.com_base.specs.declared.value.RefValue.{RefValue}
use Rattle.com_body.specs.declared.frame.Cells.{Cells}
use Rattle.com_body.specs.Frames.{FrameView, with_register, with_slot}
use Rattle.com_model.specs.declared.scenario.Scenario.{Scenario}
use Rattle.com_model.specs.Tables.{threads}
use Rattle.com_model.specs.Frames.{Scene, Actor, Body, Script, Nobody, Write, ToRegister, ToSlot, ToLink, ToBuffer, with_link, written}
use Rattle.com_model.specs.Places.{Ground, Test, in_scripts, in_bodies, in_links, places_that}
use Rattle.com_laws_places.specs.Moves.{Moves, moved, counted, entered_where, slots_where, write_moves, writes_moves}
use Rattle.com_laws_places.proofs.Frames.{slots_in, slots_at, with_body, with_script, with_cells, OpenOnce, body-put, script-put, cells-put}
use Rattle.com_laws_places.proofs.Wholes.{Whole, FitsWrite, FitsWrites, written-whole}
use Rattle.com_laws_places.proofs.Counted.{counted-both, put-in, put-at}

-- A body that stands: it was entered once, in the apartment that its admission names, and its object was made.
pub record BodyStands (s : Scenario) (g : Ground) (c o : ℕ) : Type 0 where
  pub apartment : ℕ
  pub entered : entered_where (g.admitted c) ≡ Some apartment
  pub once : OpenOnce s g c apartment
  pub made : o < g.objects + 1

abbrev pub Stands : Scenario → Ground → Actor → Type 0
Stands s g (Body c o) = BodyStands s g c o
Stands s g (Script l) = l < threads s + 1
Stands s g Nobody = Unit {0}

-- What a change of one part of the places is to all.
pub first-part : (x y z u v l m : ℕ) → v + l ≡ x + m → v + y + z + u + l ≡ x + y + z + u + m
first-part x y z u v l m p = omega (arith, p)

pub second-part : (x y z u v l m : ℕ) → v + l ≡ y + m → x + v + z + u + l ≡ x + y + z + u + m
second-part x y z u v l m p = omega (arith, p)

pub third-part : (x y z u v l m : ℕ) → v + l ≡ z + m → x + y + v + u + l ≡ x + y + z + u + m
third-part x y z u v l m p = omega (arith, p)

pub cancelled : (x y k l m n : ℕ) → x + k ≡ y + l → l + m ≡ k + n → x + m ≡ y + n
cancelled x y k l m n p q = omega (arith, p, q)

-- The places of an apartment after a write.
abbrev pub Moved : Scenario → Ground → (before after : Scene) → Moves → Type 0
Moved s g w x ms = (a : ℕ) (t : Test) → places_that s g x a t + counted ms.lost a t ≡ places_that s g w a t + counted ms.gained a t

pub body-same : (s : Scenario) (g : Ground) (w : Scene) (c o : ℕ) (f : FrameView) → BodyStands s g c o → f.slots ≡ (w.bodies c).slots → (a : ℕ) (t : Test) → in_bodies s g (with_body w c f) a t + 0 ≡ in_bodies s g w a t + 0
body-same s g w c o f p e a t =
    let put : in_bodies s g (with_body w c f) a t + slots_in p.apartment a t (w.bodies c).slots ≡ in_bodies s g w a t + slots_in p.apartment a t f.slots = body-put s g w a c p.apartment t f p.once in
    let same : slots_in p.apartment a t f.slots ≡ slots_in p.apartment a t (w.bodies c).slots = ap (λ (xs : List (Option RefValue)). slots_in p.apartment a t xs) e in
    omega (arith, put, same)

pub script-same : (s : Scenario) (g : Ground) (w : Scene) (l : ℕ) (f : FrameView) → l < threads s + 1 → f.slots ≡ (w.scripts l).slots → (a : ℕ) (t : Test) → in_scripts s g (with_script w l f) a t + 0 ≡ in_scripts s g w a t + 0
script-same s g w l f h e a t =
    let put : in_scripts s g (with_script w l f) a t + slots_at (g.home l) a t (w.scripts l).slots ≡ in_scripts s g w a t + slots_at (g.home l) a t f.slots = script-put s g w a l t f h in
    let same : slots_at (g.home l) a t f.slots ≡ slots_at (g.home l) a t (w.scripts l).slots = ap (λ (xs : List (Option RefValue)). slots_at (g.home l) a t xs) e in
    omega (arith, put, same)

pub cells-same : (g : Ground) (w : Scene) (o : ℕ) (c : Cells) → o < g.objects + 1 → c.links ≡ (w.cells o).links → (a : ℕ) (t : Test) → in_links g (with_cells w o c) a t + 0 ≡ in_links g w a t + 0
cells-same g w o c h e a t =
    let put : in_links g (with_cells w o c) a t + slots_in (g.named o) a t (w.cells o).links ≡ in_links g w a t + slots_in (g.named o) a t c.links = cells-put g w a o t c h in
    let same : slots_in (g.named o) a t c.links ≡ slots_in (g.named o) a t (w.cells o).links = ap (λ (xs : List (Option RefValue)). slots_in (g.named o) a t xs) e in
    omega (arith, put, same)

stands-now : (xs : List (Option RefValue)) (k : ℕ) (held : Option RefValue) → k < length xs → slice_index_or (slice_set xs k held) k None ≡ held
stands-now xs k held h = get_or-set_same xs k held None h

body-slot : (s : Scenario) (g : Ground) (w : Scene) (c o k : ℕ) (held : Option RefValue) → BodyStands s g c o → k < length (w.bodies c).slots → (a : ℕ) (t : Test)
    → in_bodies s g (with_body w c (with_slot (w.bodies c) k held)) a t + counted (moved (slots_where g (Body c o)) (slice_index_or (w.bodies c).slots k None)) a t
    ≡ in_bodies s g w a t + counted (moved (slots_where g (Body c o)) held) a t
body-slot s g w c o k held p h a t =
    subst (λ (x : Option ℕ). in_bodies s g (with_body w c (with_slot (w.bodies c) k held)) a t + counted (moved x (slice_index_or (w.bodies c).slots k None)) a t
    ≡ in_bodies s g w a t + counted (moved x held) a t) (sym p.entered)
    (subst (λ (y : Option RefValue). in_bodies s g (with_body w c (with_slot (w.bodies c) k held)) a t + counted (moved (Some p.apartment) (slice_index_or (w.bodies c).slots k None)) a t
    ≡ in_bodies s g w a t + counted (moved (Some p.apartment) y) a t) (stands-now (w.bodies c).slots k held h)
    (cancelled _ _ _ _ _ _ (body-put s g w a c p.apartment t (with_slot (w.bodies c) k held) p.once) (put-in p.apartment a t (w.bodies c).slots k held)))

script-slot : (s : Scenario) (g : Ground) (w : Scene) (l k : ℕ) (held : Option RefValue) → l < threads s + 1 → k < length (w.scripts l).slots → (a : ℕ) (t : Test)
    → in_scripts s g (with_script w l (with_slot (w.scripts l) k held)) a t + counted (moved (g.home l) (slice_index_or (w.scripts l).slots k None)) a t
    ≡ in_scripts s g w a t + counted (moved (g.home l) held) a t
script-slot s g w l k held h i a t =
    subst (λ (y : Option RefValue). in_scripts s g (with_script w l (with_slot (w.scripts l) k held)) a t + counted (moved (g.home l) (slice_index_or (w.scripts l).slots k None)) a t
    ≡ in_scripts s g w a t + counted (moved (g.home l) y) a t) (stands-now (w.scripts l).slots k held i)
    (cancelled _ _ _ _ _ _ (script-put s g w a l t (with_slot (w.scripts l) k held) h) (put-at (g.home l) a t (w.scripts l).slots k held))

cells-link : (g : Ground) (w : Scene) (o k : ℕ) (held : Option RefValue) → o < g.objects + 1 → k < length (w.cells o).links → (a : ℕ) (t : Test)
    → in_links g (with_cells w o (with_link (w.cells o) k held)) a t + counted (moved (Some (g.named o)) (slice_index_or (w.cells o).links k None)) a t
    ≡ in_links g w a t + counted (moved (Some (g.named o)) held) a t
cells-link g w o k held h i a t =
    subst (λ (y : Option RefValue). in_links g (with_cells w o (with_link (w.cells o) k held)) a t + counted (moved (Some (g.named o)) (slice_index_or (w.cells o).links k None)) a t
    ≡ in_links g w a t + counted (moved (Some (g.named o)) y) a t) (stands-now (w.cells o).links k held i)
    (cancelled _ _ _ _ _ _ (cells-put g w a o t (with_link (w.cells o) k held) h) (put-in (g.named o) a t (w.cells o).links k held))

within : (n k m : ℕ) → k < n → n ≤ m → k < m
within n k m p q = omega (arith, p, q)

pub write-moves : (s : Scenario) (g : Ground) (w : Scene) (a : Actor) (x : Write) → Stands s g a → Whole w → FitsWrite x → Moved s g w (written a w x) (write_moves g w a x)
write-moves s g w (Body c o) (ToRegister r v) p n f a t = second-part _ _ _ _ _ _ _ (body-same s g w c o (with_register (w.bodies c) r v) p refl a t)
write-moves s g w (Body c o) (ToSlot k held) p n f a t = second-part _ _ _ _ _ _ _ (body-slot s g w c o k held p (within 8 k _ f (n.bodies c)) a t)
write-moves s g w (Body c o) (ToLink k held) p n f a t = third-part _ _ _ _ _ _ _ (cells-link g w o k held p.made (within 4 k _ f (n.cells o)) a t)
write-moves s g w (Body c o) (ToBuffer b bytes) p n f a t = refl
write-moves s g w (Script l) (ToRegister r v) p n f a t = first-part _ _ _ _ _ _ _ (script-same s g w l (with_register (w.scripts l) r v) p refl a t)
write-moves s g w (Script l) (ToSlot k held) p n f a t = first-part _ _ _ _ _ _ _ (script-slot s g w l k held p (within 8 k _ f (n.scripts l)) a t)
write-moves s g w (Script l) (ToLink k held) p n f a t = refl
write-moves s g w (Script l) (ToBuffer b bytes) p n f a t = refl
write-moves s g w Nobody (ToRegister r v) p n f a t = refl
write-moves s g w Nobody (ToSlot k held) p n f a t = nowhere (places_that s g w a t) held a t
  where
    nowhere : (z : ℕ) (x : Option RefValue) (b : ℕ) (u : Test) → z + counted (moved None None) b u ≡ z + counted (moved None x) b u
    nowhere z x b u = refl
write-moves s g w Nobody (ToLink k held) p n f a t = refl
write-moves s g w Nobody (ToBuffer b bytes) p n f a t = refl

-- One change after another.
pub moved-both : (s : Scenario) (g : Ground) (w x y : Scene) (m n : Moves) → Moved s g w x m → Moved s g x y n → Moved s g w y (record { lost = m.lost ++ n.lost; gained = m.gained ++ n.gained })
moved-both s g w x y m n p q a t =
    let first : places_that s g x a t + counted m.lost a t ≡ places_that s g w a t + counted m.gained a t = p a t in
    let second : places_that s g y a t + counted n.lost a t ≡ places_that s g x a t + counted n.gained a t = q a t in
    omega (arith, first, second, counted-both m.lost n.lost a t, counted-both m.gained n.gained a t)

pub writes-move : (s : Scenario) (g : Ground) (w : Scene) (a : Actor) (xs : List Write) → Stands s g a → Whole w → FitsWrites xs → Moved s g w (fold (written a) w xs) (writes_moves g w a xs)
writes-move s g w a [] p n f = λ b t. refl
writes-move s g w a (x ∷ xs) p n f =
    moved-both s g w (written a w x) (fold (written a) (written a w x) xs) (write_moves g w a x) (writes_moves g (written a w x) a xs) (write-moves s g w a x p n f.0)
    (writes-move s g (written a w x) a xs p (written-whole a w x n) f.1)
