-- The moves of an entry over the tables are those by what slots and links hold after the step.
use Rattle.std.proofs.Common.{ap, ap₂, ◌∙◌, sym}
use Rattle.std.specs.Prelude.{◌≡◌, refl, ℕ, zero, suc, Bool, true, false, cond, ◌==◌, List, [], ◌∷◌, ◌++◌, Option, Some, None, fold, slice_set}
use Rattle.com_base.specs.declared.hresult.HResult.{HResult}
use Rattle.com_base.specs.declared.value.RefValue.{RefValue}
use Rattle.com_base.specs.declared.value.Value.{Value}
use Rattle.com_body.specs.declared.actions.Action.{Action}
use Rattle.com_body.specs.declared.actions.Action.TheVariants as action
use Rattle.com_body.specs.declared.frame.Cells.{Cells}
use Rattle.com_body.specs.declared.frame.Outcome.{Outcome}
use Rattle.com_body.specs.declared.operands.Place.{Place}
use Rattle.com_body.specs.declared.operands.Place.TheVariants as place
use Rattle.com_body.specs.declared.operands.Destination.{Destination}
use Rattle.com_body.specs.declared.operands.Destination.TheVariants as destination
use Rattle.com_body.specs.Frames.{FrameView}
use Rattle.com_model.specs.declared.deeds.Deed.{Deed}
use Rattle.com_model.specs.declared.deeds.Deed.TheVariants as deed
use Rattle.com_model.specs.declared.deeds.Entry.{Entry}
use Rattle.com_model.specs.Apartments.{ends_sta}
use Rattle.com_model.specs.Frames.{Scene, Actor, Body, Script, Nobody, Write, ToRegister, ToSlot, ToLink, ToBuffer, writes, to_answer, to_place, to_destination, value_reference, marshalled_in, with_frame, written, wants, acted, arrived}
use Rattle.com_model.specs.Lists.{one_to}
use Rattle.com_model.specs.Places.{Ground, left_value}
use Rattle.com_model.specs.State.{SceneTables, scene_read}
use Rattle.com_laws_places.specs.Moves.{Move as Moving, Moves as Movings, together, all_moved, entered_where, slots_where, slots_of, result_moved, writes_moves, acted_moves, arrived_moves, links_moved, ended_moves}
use Rattle.com_laws_places.proofs.Frames.{same-row}
use Rattle.com_state.specs.Parts.{ObjectTables, CallTables}
use Rattle.com_reference_moves.specs.Steps.{place_write, has_frame_of, is_on, slots_placed, slots_with, links_placed, links_with, slots_stepped, links_stepped, exchanged, given_moves, arrived_stepped, links_of_step, ended_stepped, acted_stepped, moves_stepped}
use Rattle.com_reference_moves.specs.Tables.{ground_at, moves_at}
use Rattle.com_reference_moves.proofs.Acts.{together-none, answer-slots, acted-moves}
use Rattle.com_reference_moves.proofs.Lists.{entered_moves}

abbrev Slots : Type 0
Slots = List (Option RefValue)

-- ---- slots and links after writes

abbrev slots_past : Write → Slots → Slots
slots_past (ToSlot k held) xs = slice_set xs k held
slots_past _ xs = xs

abbrev links_past : Write → Slots → Slots
links_past (ToLink k held) xs = slice_set xs k held
links_past _ xs = xs

abbrev all_slots : List Write → Slots → Slots
all_slots [] xs = xs
all_slots (x ∷ ws) xs = all_slots ws (slots_past x xs)

abbrev all_links : List Write → Slots → Slots
all_links [] xs = xs
all_links (x ∷ ws) xs = all_links ws (links_past x xs)

-- Whoever acts has these slots and links, and all else is as before.
record Stepped (a : Actor) (w v : Scene) (xs ls : Slots) : Type 0 where
  scripts : (l : ℕ) → (v.scripts l).slots ≡ cond (has_frame_of a (Script l)) xs (w.scripts l).slots
  bodies : (c j : ℕ) → (v.bodies c).slots ≡ cond (has_frame_of a (Body c j)) xs (w.bodies c).slots
  cells : (o : ℕ) → (v.cells o).links ≡ cond (is_on a o) ls (w.cells o).links

chosen-slots : (q : Bool) (f g : FrameView) (ys xs zs : Slots) → f.slots ≡ ys → g.slots ≡ cond q xs zs → (cond q f g).slots ≡ cond q ys zs
chosen-slots true f g ys xs zs p e = p
chosen-slots false f g ys xs zs p e = e

chosen-links : (q : Bool) (f g : Cells) (ys xs zs : Slots) → f.links ≡ ys → g.links ≡ cond q xs zs → (cond q f g).links ≡ cond q ys zs
chosen-links true f g ys xs zs p e = p
chosen-links false f g ys xs zs p e = e

with-slots : (q : Bool) (f g : FrameView) → (cond q f g).slots ≡ cond q f.slots g.slots
with-slots true f g = refl
with-slots false f g = refl

with-links : (q : Bool) (f g : Cells) → (cond q f g).links ≡ cond q f.links g.links
with-links true f g = refl
with-links false f g = refl

framed : (a : Actor) (r : Outcome) (w : Scene) → Stepped a w (with_frame a r w) r.frame.slots r.cells.links
framed (Body c o) r w = record {
  scripts = λ l. refl;
  bodies = λ k j. with-slots (k == c) r.frame (w.bodies k);
  cells = λ k. with-links (k == o) r.cells (w.cells k);
}
framed (Script l) r w = record {
  scripts = λ k. with-slots (k == l) r.frame (w.scripts k);
  bodies = λ k j. refl;
  cells = λ k. refl;
}
framed Nobody r w = record { scripts = λ k. refl; bodies = λ k j. refl; cells = λ k. refl }

own-body : (c o : ℕ) (w v : Scene) (xs ls : Slots) → Stepped (Body c o) w v xs ls → (v.bodies c).slots ≡ xs
own-body c o w v xs ls s = s.bodies c 0 ∙ same-row c xs (λ k. (w.bodies k).slots)

own-script : (l : ℕ) (w v : Scene) (xs ls : Slots) → Stepped (Script l) w v xs ls → (v.scripts l).slots ≡ xs
own-script l w v xs ls s = s.scripts l ∙ same-row l xs (λ k. (w.scripts k).slots)

own-cells : (c o : ℕ) (w v : Scene) (xs ls : Slots) → Stepped (Body c o) w v xs ls → (v.cells o).links ≡ ls
own-cells c o w v xs ls s = s.cells o ∙ same-row o ls (λ k. (w.cells k).links)

one-more : (a : Actor) (w v : Scene) (xs ls : Slots) (x : Write) → Stepped a w v xs ls → Stepped a w (written a v x) (slots_past x xs) (links_past x ls)
one-more (Body c o) w v xs ls (ToRegister r y) s = record {
  scripts = s.scripts;
  bodies = λ k j. chosen-slots (k == c) _ (v.bodies k) xs xs (w.bodies k).slots (own-body c o w v xs ls s) (s.bodies k j);
  cells = s.cells;
}
one-more (Body c o) w v xs ls (ToSlot n held) s = record {
  scripts = s.scripts;
  bodies = λ k j. chosen-slots (k == c) _ (v.bodies k) (slice_set xs n held) xs (w.bodies k).slots (ap (λ (ys : Slots). slice_set ys n held) (own-body c o w v xs ls s)) (s.bodies k j);
  cells = s.cells;
}
one-more (Body c o) w v xs ls (ToLink n held) s = record {
  scripts = s.scripts;
  bodies = s.bodies;
  cells = λ k. chosen-links (k == o) _ (v.cells k) (slice_set ls n held) ls (w.cells k).links (ap (λ (ys : Slots). slice_set ys n held) (own-cells c o w v xs ls s)) (s.cells k);
}
one-more (Body c o) w v xs ls (ToBuffer p bytes) s = record { scripts = s.scripts; bodies = s.bodies; cells = s.cells }
one-more (Script l) w v xs ls (ToRegister r y) s = record {
  scripts = λ k. chosen-slots (k == l) _ (v.scripts k) xs xs (w.scripts k).slots (own-script l w v xs ls s) (s.scripts k);
  bodies = s.bodies;
  cells = s.cells;
}
one-more (Script l) w v xs ls (ToSlot n held) s = record {
  scripts = λ k. chosen-slots (k == l) _ (v.scripts k) (slice_set xs n held) xs (w.scripts k).slots (ap (λ (ys : Slots). slice_set ys n held) (own-script l w v xs ls s)) (s.scripts k);
  bodies = s.bodies;
  cells = s.cells;
}
one-more (Script l) w v xs ls (ToLink n held) s = record { scripts = s.scripts; bodies = s.bodies; cells = s.cells }
one-more (Script l) w v xs ls (ToBuffer p bytes) s = record { scripts = s.scripts; bodies = s.bodies; cells = s.cells }
one-more Nobody w v xs ls x s = record { scripts = s.scripts; bodies = s.bodies; cells = s.cells }

all-more : (a : Actor) (w v : Scene) (xs ls : Slots) (ws : List Write) → Stepped a w v xs ls → Stepped a w (fold (written a) v ws) (all_slots ws xs) (all_links ws ls)
all-more a w v xs ls [] s = s
all-more a w v xs ls (x ∷ ws) s = all-more a w (written a v x) (slots_past x xs) (links_past x ls) ws (one-more a w v xs ls x s)

still-wants : (a : Actor) (w v : Scene) (xs ls : Slots) (x : Action) (d : Deed) → Stepped a w v xs ls → Stepped a w (wants x d v) xs ls
still-wants a w v xs ls (action.Call held i m args to) (deed.Out c o j n r k bytes) s = record { scripts = s.scripts; bodies = s.bodies; cells = s.cells }
still-wants a w v xs ls (action.Call held i m args to) _ s = s
still-wants a w v xs ls _ d s = s

-- ---- one reference is written

placed-slots : (p : Place) (held : Option RefValue) (xs : Slots) → slots_past (to_place p held) xs ≡ slots_placed p held xs
placed-slots (place.Slot k) held xs = refl
placed-slots (place.Link k) held xs = refl

placed-links : (p : Place) (held : Option RefValue) (xs : Slots) → links_past (to_place p held) xs ≡ links_placed p held xs
placed-links (place.Slot k) held xs = refl
placed-links (place.Link k) held xs = refl

marshal-slots : (b : ℕ) (d : Deed) (xs : Slots) → all_slots (marshalled_in b d) xs ≡ xs
marshal-slots b (deed.Marshal p m held refs hr None) xs = refl
marshal-slots b (deed.Marshal p m held refs hr (Some bytes)) xs = refl
marshal-slots b _ xs = refl

marshal-links : (b : ℕ) (d : Deed) (xs : Slots) → all_links (marshalled_in b d) xs ≡ xs
marshal-links b (deed.Marshal p m held refs hr None) xs = refl
marshal-links b (deed.Marshal p m held refs hr (Some bytes)) xs = refl
marshal-links b _ xs = refl

writes-slots : (x : Action) (d : Deed) (xs : Slots) → all_slots (writes x d) xs ≡ slots_with (place_write x d) xs
writes-slots (action.Copy to held) d xs = placed-slots to held xs
writes-slots (action.Release from held) d xs = placed-slots from None xs
writes-slots (action.Marshal b held m) d xs = marshal-slots b d xs
writes-slots _ d xs = refl

writes-links : (x : Action) (d : Deed) (xs : Slots) → all_links (writes x d) xs ≡ links_with (place_write x d) xs
writes-links (action.Copy to held) d xs = placed-links to held xs
writes-links (action.Release from held) d xs = placed-links from None xs
writes-links (action.Marshal b held m) d xs = marshal-links b d xs
writes-links _ d xs = refl

-- ---- the scene after the step

stepped : (t : SceneTables) (a : Actor) (r : Outcome) (d : Deed) → Stepped a (scene_read t) (acted a (Some r) d (scene_read t)) (all_slots (writes r.action d) r.frame.slots) (all_links (writes r.action d) r.cells.links)
stepped t a r d = still-wants a (scene_read t) _ _ _ r.action d (all-more a (scene_read t) _ _ _ (writes r.action d) (framed a r (scene_read t)))

body-slots : (t : SceneTables) (a : Actor) (r : Option Outcome) (d : Deed) (c j : ℕ) → ((acted a r d (scene_read t)).bodies c).slots ≡ slots_stepped t a r d (Body c j)
body-slots t a None d c j = refl
body-slots t a (Some r) d c j = (stepped t a r d).bodies c j ∙ ap (λ (xs : Slots). cond (has_frame_of a (Body c j)) xs ((scene_read t).bodies c).slots) (writes-slots r.action d r.frame.slots)

script-slots : (t : SceneTables) (a : Actor) (r : Option Outcome) (d : Deed) (l : ℕ) → ((acted a r d (scene_read t)).scripts l).slots ≡ slots_stepped t a r d (Script l)
script-slots t a None d l = refl
script-slots t a (Some r) d l = (stepped t a r d).scripts l ∙ ap (λ (xs : Slots). cond (has_frame_of a (Script l)) xs ((scene_read t).scripts l).slots) (writes-slots r.action d r.frame.slots)

object-links : (t : SceneTables) (a : Actor) (r : Option Outcome) (d : Deed) (o : ℕ) → ((acted a r d (scene_read t)).cells o).links ≡ links_stepped t a r d o
object-links t a None d o = refl
object-links t a (Some r) d o = (stepped t a r d).cells o ∙ ap (λ (xs : Slots). cond (is_on a o) xs ((scene_read t).cells o).links) (writes-links r.action d r.cells.links)

-- ---- where a result goes

written-to : (a : Actor) (w : Scene) (x : Write) → (written a w x).destinations ≡ w.destinations
written-to (Body c o) w (ToRegister r v) = refl
written-to (Body c o) w (ToSlot k held) = refl
written-to (Body c o) w (ToLink k held) = refl
written-to (Body c o) w (ToBuffer p bytes) = refl
written-to (Script l) w (ToRegister r v) = refl
written-to (Script l) w (ToSlot k held) = refl
written-to (Script l) w (ToLink k held) = refl
written-to (Script l) w (ToBuffer p bytes) = refl
written-to Nobody w x = refl

all-to : (a : Actor) (w : Scene) (ws : List Write) → (fold (written a) w ws).destinations ≡ w.destinations
all-to a w [] = refl
all-to a w (x ∷ ws) = all-to a (written a w x) ws ∙ written-to a w x

framed-to : (a : Actor) (r : Outcome) (w : Scene) → (with_frame a r w).destinations ≡ w.destinations
framed-to (Body c o) r w = refl
framed-to (Script l) r w = refl
framed-to Nobody r w = refl

no-want : (x : Action) (c : ℕ) (hr : HResult) (v : Option Value) (w : Scene) → (wants x (deed.Back c hr v) w).destinations ≡ w.destinations
no-want (action.Call held i m args to) c hr v w = refl
no-want _ c hr v w = refl

back-to : (t : SceneTables) (a : Actor) (r : Option Outcome) (c : ℕ) (hr : HResult) (v : Option Value) → (acted a r (deed.Back c hr v) (scene_read t)).destinations ≡ (scene_read t).destinations
back-to t a None c hr v = refl
back-to t a (Some r) c hr v =
    no-want r.action c hr v (fold (written a) (with_frame a r (scene_read t)) (writes r.action (deed.Back c hr v)))
    ∙ all-to a (with_frame a r (scene_read t)) (writes r.action (deed.Back c hr v)) ∙ framed-to a r (scene_read t)

-- Whoever acts after the entry has these slots.
abbrev HasOwn : Scene → Actor → Slots → Type 0
HasOwn w Nobody xs = Unit {0}
HasOwn w b xs = slots_of w b ≡ xs

slot-given : (g : Ground) (w : Scene) (b : Actor) (hr : HResult) (k : ℕ) (held : Option RefValue) (xs : Slots) → HasOwn w b xs → exchanged (slots_where g b) (slots_of (written b w (to_answer hr)) b) k held ≡ exchanged (slots_where g b) xs k held
slot-given g w (Body c o) hr k held xs p = ap (λ (ys : Slots). exchanged (slots_where g (Body c o)) ys k held) (answer-slots w (Body c o) _ _ ∙ p)
slot-given g w (Script l) hr k held xs p = ap (λ (ys : Slots). exchanged (slots_where g (Script l)) ys k held) (answer-slots w (Script l) _ _ ∙ p)
slot-given g w Nobody hr k held xs p = refl

result-given : (g : Ground) (w : Scene) (b : Actor) (hr : HResult) (to : Destination) (v : Option Value) (xs : Slots) → HasOwn w b xs → writes_moves g w b (to_answer hr ∷ to_destination to v) ≡ given_moves (slots_where g b) xs to v
result-given g w b hr destination.Nowhere v xs p = refl
result-given g w b hr (destination.Register r) None xs p = refl
result-given g w b hr (destination.Register r) (Some v) xs p = refl
result-given g w b hr (destination.Slot k) v xs p = together-none (exchanged (slots_where g b) (slots_of (written b w (to_answer hr)) b) k (value_reference v)) ∙ slot-given g w b hr k (value_reference v) xs p

own-slots : (t : SceneTables) (a : Actor) (r : Option Outcome) (d : Deed) (b : Actor) → HasOwn (acted a r d (scene_read t)) b (slots_stepped t a r d b)
own-slots t a r d (Body c o) = body-slots t a r d c o
own-slots t a r d (Script l) = script-slots t a r d l
own-slots t a r d Nobody = tt

-- ---- the three parts

acted-part : (g : Ground) (t : SceneTables) (a : Actor) (r : Option Outcome) (d : Deed) → acted_stepped g a r d ≡ acted_moves g (scene_read t) a r d
acted-part g t a None d = refl
acted-part g t a (Some r) d = sym (acted-moves g (scene_read t) a r d)

arrived-part : (g : Ground) (t : SceneTables) (a : Actor) (r : Option Outcome) (b : Actor) (l : ℕ) (d : Deed) → arrived_moves g (acted a r d (scene_read t)) b l d ≡ arrived_stepped g t a r b l d
arrived-part g t a r b l (deed.Leave c hr v bytes) = ap (λ (xs : Slots). record { lost = all_moved (entered_where (g.admitted c)) xs; gained = result_moved g c v }) (body-slots t a r (deed.Leave c hr v bytes) c 0)
arrived-part g t a r b l (deed.Enter c o x k vs) = ap (λ (ms : List Moving). record { lost = []; gained = ms }) (entered_moves (Some x) vs)
arrived-part g t a r b l (deed.Back c hr v) =
    let w : Scene = acted a r (deed.Back c hr v) (scene_read t) in
    ap (λ (m : Movings). together (record { lost = result_moved g c (left_value (g.left c)); gained = [] }) m)
    (ap (λ (to : ℕ → Destination). writes_moves g w b (to_answer hr ∷ to_destination (to c) v)) (back-to t a r c hr v)
    ∙ result-given g w b hr ((scene_read t).destinations c) v _ (own-slots t a r (deed.Back c hr v) b))
arrived-part g t a r b l (deed.Uninit h zero) = ap (λ (xs : Slots). record { lost = all_moved (g.home l) xs; gained = [] }) (script-slots t a r (deed.Uninit h 0) l)
arrived-part g t a r b l (deed.Uninit h (suc n)) = refl
arrived-part g t a r b l (deed.Final o) = ap (λ (xs : Slots). record { lost = all_moved (Some (g.named o)) xs; gained = [] }) (object-links t a r (deed.Final o) o)
arrived-part g t a r b l _ = refl

links-part : (g : Ground) (t : SceneTables) (a : Actor) (r : Option Outcome) (d : Deed) (v : Scene) (x : ℕ) (os : List ℕ) → ((o : ℕ) → (v.cells o).links ≡ links_stepped t a r d o) → links_moved g v x os ≡ links_of_step g.named t a r d x os
links-part g t a r d v x [] p = refl
links-part g t a r d v x (o ∷ os) p = ap₂ (λ (ls : Slots) (ms : List Moving). cond (g.named o == x) (all_moved (Some x) ls) [] ++ ms) (p o) (links-part g t a r d v x os p)

ended-by : (g : Ground) (t : SceneTables) (a : Actor) (r : Option Outcome) (d : Deed) (v : Scene) (x : Option ℕ) → ((o : ℕ) → (v.cells o).links ≡ links_stepped t a r d o) → ended_moves g v x ≡ ended_stepped g t a r d x
ended-by g t a r d v None p = refl
ended-by g t a r d v (Some x) p = ap (λ (ms : List Moving). record { lost = ms; gained = [] }) (links-part g t a r d v x (one_to g.objects) p)

ended-part : (g : Ground) (t : SceneTables) (a : Actor) (r : Option Outcome) (b : Actor) (l : ℕ) (d : Deed) → ended_moves g (arrived b l d (acted a r d (scene_read t))) (ends_sta d) ≡ ended_stepped g t a r d (ends_sta d)
ended-part g t a r b l (deed.Uninit None n) = refl
ended-part g t a r b l (deed.Uninit (Some x) zero) = ended-by g t a r (deed.Uninit (Some x) 0) (arrived b l (deed.Uninit (Some x) 0) (acted a r (deed.Uninit (Some x) 0) (scene_read t))) (ends_sta (deed.Uninit (Some x) 0)) (object-links t a r (deed.Uninit (Some x) 0))
ended-part g t a r b l (deed.Uninit (Some x) (suc n)) = refl
ended-part g t a r b l _ = refl

pub moves-stepped : (home : Option ℕ) (o : ObjectTables) (c : CallTables) (t : SceneTables) (a : Actor) (r : Option Outcome) (b : Actor) (e : Entry) → moves_stepped (ground_at home o c) t a r b e ≡ moves_at home o c t a r b e
moves-stepped home o c t a r b e =
    let g : Ground = ground_at home o c in
    ap₂ together (acted-part g t a r e.deed)
    (ap₂ together (sym (arrived-part g t a r b e.lane e.deed)) (sym (ended-part g t a r b e.lane e.deed)))
