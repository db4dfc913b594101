-- The reference that an action's entry writes at a place, what slots and links hold after it, and the moves
-- that it makes.
use Rattle.std.specs.Prelude.{ℕ, zero, ◌≤◌, Bool, false, not, ◌&&◌, ◌==◌, if◌then◌else◌, List, []}
use Rattle.std.specs.Prelude.{◌∷◌, ◌++◌, map, Option, Some, None, length, slice_index_or, slice_set}
use Rattle.com_base.specs.declared.limits.TheConstants.{PARAMETER_LIMIT}
use Rattle.com_base.specs.declared.value.RefValue.{RefValue}
use Rattle.com_base.specs.declared.value.Value.{Value}
use Rattle.com_body.specs.declared.actions.Action.{Action}
use Rattle.com_body.specs.declared.actions.Action.TheVariants as action
use Rattle.com_body.specs.declared.frame.Outcome.{Outcome}
use Rattle.com_body.specs.declared.operands.Place.{Place}
use Rattle.com_body.specs.declared.operands.Place.TheVariants as place
use Rattle.com_body.specs.declared.operands.Destination.{Destination}
use Rattle.com_body.specs.declared.operands.Destination.TheVariants as destination
use Rattle.com_body.specs.Frames.{references}
use Rattle.com_model.specs.declared.deeds.Deed.{Deed}
use Rattle.com_model.specs.declared.deeds.Deed.TheVariants as deed
use Rattle.com_model.specs.declared.deeds.Entry.{Entry}
use Rattle.com_model.specs.Apartments.{ends_sta}
use Rattle.com_model.specs.Lists.{one_to, from_one}
use Rattle.com_model.specs.Calls.{is_direct, route_of}
use Rattle.com_model.specs.Frames.{Actor, Body, Script, Nobody, taken_in, value_reference}
use Rattle.com_model.specs.Places.{Ground, left_value}
use Rattle.com_model.specs.State.{SceneTables}
use Rattle.com_laws_places.specs.Moves.{Move as Moving, Moves as Movings, no_moves, together, moved, all_moved}
use Rattle.com_laws_places.specs.Moves.{entered_where, slots_where, result_moved}
use Rattle.com_state.specs.Parts.{CallTables, issue_at, admission_at}
use Rattle.com_state.specs.SceneParts.{script_at, body_at, cells_at, destination_at}
use Rattle.com_scene.specs.Kept.{HasSlots}
use Rattle.com_scene.specs.Scenes.{frame_of}
use Rattle.com_reference_moves.specs.declared.moves.Move.{Move}
use Rattle.com_reference_moves.specs.declared.written.Written.{Written}

-- A move of the code's lists as the laws of places name it.
abbrev pub moving_of : Move → Moving
moving_of m = record { apartment = m.apartment; reference = m.reference }

-- The moves of a list, in their order.
abbrev pub movings_of : List Move → List Moving
movings_of ms = map moving_of ms

abbrev pub at_slot : ℕ → Option RefValue → Option Written
at_slot k held = Some (record { place = place.Slot k; held = held })

-- Each action writes one reference at most.
abbrev pub place_write : Action → Deed → Option Written
place_write (action.Create slot k i) d = at_slot slot (taken_in d)
place_write (action.Query to held i) d = at_slot to (taken_in d)
place_write (action.Copy to held) d = Some (record { place = to; held = held })
place_write (action.Release from held) d = Some (record { place = from; held = None })
place_write (action.Unmarshal slot b) d = at_slot slot (taken_in d)
place_write (action.Get slot g) d = at_slot slot (taken_in d)
place_write _ d = None

-- A write at a place of a list takes what stood there, and brings what is written.
abbrev pub exchanged : Option ℕ → List (Option RefValue) → ℕ → Option RefValue → Movings
exchanged a xs k held = record {
  lost = moved a (slice_index_or xs k None);
  gained = moved a held;
}

abbrev pub link_exchanged : Ground → Actor → Outcome → ℕ → Option RefValue → Movings
link_exchanged g (Body c o) r k held = exchanged (Some (g.named o)) r.cells.links k held
link_exchanged g (Script l) r k held = no_moves
link_exchanged g Nobody r k held = no_moves

-- A write at a place of whoever acts, on the slots and links that the step left. A script writes no link.
abbrev pub place_moves : Ground → Actor → Outcome → Place → Option RefValue → Movings
place_moves g a r (place.Slot k) held = exchanged (slots_where g a) r.frame.slots k held
place_moves g a r (place.Link k) held = link_exchanged g a r k held

-- The moves of what an action's entry writes; none where it writes neither a reference nor null.
abbrev pub step_moves : Ground → Actor → Outcome → Option Written → Movings
step_moves g a r None = no_moves
step_moves g a r (Some x) = place_moves g a r x.place x.held

-- ---- slots and links after the step of whoever acts

abbrev pub has_frame_of : (acting who : Actor) → Bool
has_frame_of (Body c o) (Body k j) = k == c
has_frame_of (Script l) (Script m) = m == l
has_frame_of _ _ = false

abbrev pub is_on : (acting : Actor) → (object : ℕ) → Bool
is_on (Body c o) j = j == o
is_on _ j = false

abbrev pub slots_placed : Place → Option RefValue → List (Option RefValue) → List (Option RefValue)
slots_placed (place.Slot k) held xs = slice_set xs k held
slots_placed (place.Link k) held xs = xs

abbrev pub slots_with : Option Written → List (Option RefValue) → List (Option RefValue)
slots_with None xs = xs
slots_with (Some x) xs = slots_placed x.place x.held xs

abbrev pub links_placed : Place → Option RefValue → List (Option RefValue) → List (Option RefValue)
links_placed (place.Slot k) held xs = xs
links_placed (place.Link k) held xs = slice_set xs k held

abbrev pub links_with : Option Written → List (Option RefValue) → List (Option RefValue)
links_with None xs = xs
links_with (Some x) xs = links_placed x.place x.held xs

-- The slots of a frame after the action of an entry: where it is the frame of whoever acts, those of its step with
-- the write in them, else those before the entry.
abbrev pub slots_stepped : SceneTables → Actor → Option Outcome → Deed → (who : Actor)
    → List (Option RefValue)
slots_stepped t a None d b = (frame_of t b).slots
slots_stepped t a (Some r) d b =
    if has_frame_of a b then slots_with (place_write r.action d) r.frame.slots else (frame_of t b).slots

abbrev pub links_stepped : SceneTables → Actor → Option Outcome → Deed → (object : ℕ) → List (Option RefValue)
links_stepped t a None d o = (cells_at t o).links
links_stepped t a (Some r) d o =
    if is_on a o then links_with (place_write r.action d) r.cells.links else (cells_at t o).links

-- ---- frames have 8 slots

-- The frame that a step leaves has 8 slots. Without a step nothing is asked.
abbrev pub IsWhole : Option Outcome → Type 0
IsWhole None = Unit {0}
IsWhole (Some r) = HasSlots r.frame

-- The frame of a body has 8 slots. Of a script nothing is asked.
abbrev pub FrameWhole : SceneTables → Actor → Type 0
FrameWhole t (Body c o) = HasSlots (body_at t c)
FrameWhole t _ = Unit {0}

-- The frame of each call's body has 8 slots.
abbrev pub BodiesWhole : SceneTables → Type 0
BodiesWhole t = (c : ℕ) → HasSlots (body_at t c)

pub record FramesWhole (t : SceneTables) : Type 0 where
  pub scripts : (l : ℕ) → HasSlots (script_at t l)
  pub bodies : BodiesWhole t

-- An Enter has no more values than a method may have parameters.
abbrev pub FewValues : Deed → Type 0
FewValues (deed.Enter c o a k vs) = length vs ≤ PARAMETER_LIMIT
FewValues _ = Unit {0}

-- ---- what arrives, by the slots and links after the step

-- A result that comes back to a slot.
abbrev pub given_moves : (apartment : Option ℕ) → (slots : List (Option RefValue)) → Destination
    → Option Value → Movings
given_moves a xs (destination.Slot k) v = exchanged a xs k (value_reference v)
given_moves a xs _ v = no_moves

-- A result that is at a place from its Leave to its Back.
abbrev pub result_at : CallTables → ℕ → Option Value → List Moving
result_at c k v =
    if is_direct (route_of (issue_at c k)) && not (from_one c.returned k false)
    then moved (entered_where (admission_at c k)) (value_reference v) else []

-- What arrives with an entry. A Leave takes its frame's slots and brings a direct call's result, a Back takes that and
-- fills a slot, an Enter brings its values, an Uninit to count 0 takes the script's slots, and a Final links.
abbrev pub arrived_stepped : Ground → SceneTables → (acting : Actor) → Option Outcome → (after : Actor)
    → (lane : ℕ) → Deed → Movings
arrived_stepped g t a r b l (deed.Leave c hr v bytes) = record {
  lost = all_moved (entered_where (g.admitted c)) (slots_stepped t a r (deed.Leave c hr v bytes) (Body c 0));
  gained = result_moved g c v;
}
arrived_stepped g t a r b l (deed.Enter c o x k vs) = record {
  lost = [];
  gained = all_moved (Some x) (references vs);
}
arrived_stepped g t a r b l (deed.Back c hr v) =
    together (record { lost = result_moved g c (left_value (g.left c)); gained = [] })
    (given_moves (slots_where g b) (slots_stepped t a r (deed.Back c hr v) b) (destination_at t c) v)
arrived_stepped g t a r b l (deed.Uninit h zero) = record {
  lost = all_moved (g.home l) (slots_stepped t a r (deed.Uninit h 0) (Script l));
  gained = [];
}
arrived_stepped g t a r b l (deed.Final o) = record {
  lost = all_moved (Some (g.named o)) (links_stepped t a r (deed.Final o) o);
  gained = [];
}
arrived_stepped g t a r b l _ = no_moves

abbrev pub links_of_step : (named : ℕ → ℕ) → SceneTables → (acting : Actor) → Option Outcome → Deed
    → (apartment : ℕ) → (objects : List ℕ) → List Moving
links_of_step n t a r d x [] = []
links_of_step n t a r d x (o ∷ os) =
    (if n o == x then all_moved (Some x) (links_stepped t a r d o) else []) ++ links_of_step n t a r d x os

-- At the end of an STA the links that its objects have after the action are lost. Where none ends nothing moves.
abbrev pub ended_stepped : Ground → SceneTables → (acting : Actor) → Option Outcome → Deed → Option ℕ
    → Movings
ended_stepped g t a r d None = no_moves
ended_stepped g t a r d (Some x) = record {
  lost = links_of_step g.named t a r d x (one_to g.objects);
  gained = [];
}

-- The moves of the write of whoever acts; none where nobody acts.
abbrev pub acted_stepped : Ground → (acting : Actor) → Option Outcome → Deed → Movings
acted_stepped g a None d = no_moves
acted_stepped g a (Some r) d = step_moves g a r (place_write r.action d)

-- All moves of an entry.
abbrev pub moves_stepped : Ground → SceneTables → (acting : Actor) → Option Outcome → (after : Actor) → Entry
    → Movings
moves_stepped g t a r b e =
    together (acted_stepped g a r e.deed)
    (together (arrived_stepped g t a r b e.lane e.deed) (ended_stepped g t a r e.deed (ends_sta e.deed)))
