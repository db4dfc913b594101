-- What an entry takes from places and brings to places, in which apartment. A place is a slot of a script, a
-- slot of an open body's frame, a link of an object, or the result of a direct call that left and is not
-- back.
use Rattle.std.specs.Prelude.{◌≡◌, ℕ, zero, ◌+◌, not, ◌==◌, ◌&&◌, if◌then◌else◌, List, [], ◌∷◌, ◌++◌, Option}
use Rattle.std.specs.Prelude.{Some, None, option_map, slice_index_or, sum_by}
use Rattle.com_base.specs.declared.value.RefValue.{RefValue}
use Rattle.com_base.specs.declared.value.Value.{Value}
use Rattle.com_body.specs.declared.frame.Outcome.{Outcome}
use Rattle.com_body.specs.Frames.{entered}
use Rattle.com_refs_books.specs.Counting.{count_if}
use Rattle.com_model.specs.declared.deeds.Deed.{Deed}
use Rattle.com_model.specs.declared.deeds.Deed.TheVariants as deed
use Rattle.com_model.specs.declared.deeds.Entry.{Entry}
use Rattle.com_model.specs.declared.keeps.Admission.{Admission}
use Rattle.com_model.specs.declared.scenario.Scenario.{Scenario}
use Rattle.com_model.specs.Lists.{one_to}
use Rattle.com_model.specs.Apartments.{ends_sta}
use Rattle.com_model.specs.Calls.{is_direct, route_of}
use Rattle.com_model.specs.Objects.{class_of}
use Rattle.com_model.specs.Calls.{issue}
use Rattle.com_model.specs.Frames.{Scene, scene, Actor, Body, Script, Nobody, actor_in, Write, ToRegister}
use Rattle.com_model.specs.Frames.{ToSlot, ToLink, ToBuffer, writes, to_answer, to_destination}
use Rattle.com_model.specs.Frames.{value_reference, with_frame, written, acted, arrived, acting, outcome}
use Rattle.com_model.specs.Places.{Ground, ground, Test, places_that, left_value}

-- A reference that an apartment loses or gains at a place.
pub record Move : Type 0 where
  pub apartment : ℕ
  pub reference : RefValue

-- What apartments lose at places, and what they gain at places.
pub record Moves : Type 0 where
  pub lost : List Move
  pub gained : List Move

-- Nothing is lost, and nothing is gained.
abbrev pub no_moves : Moves
no_moves = record { lost = []; gained = [] }

-- The moves of two parts of an entry, those of the first one in front.
abbrev pub together : Moves → Moves → Moves
together m n = record { lost = m.lost ++ n.lost; gained = m.gained ++ n.gained }

-- How many of the moves are in the apartment, of a reference that passes the test.
abbrev pub counted : List Move → (apartment : ℕ) → Test → ℕ
counted ms a t = sum_by (λ (m : Move). count_if (m.apartment == a && t m.reference)) ms

-- Null is no move, and neither is what is in no apartment.
abbrev pub moved : Option ℕ → Option RefValue → List Move
moved None held = []
moved (Some a) None = []
moved (Some a) (Some r) = record { apartment = a; reference = r } ∷ []

-- The references in a list of slots, links or values, as moves of one apartment. Null is no move.
abbrev pub all_moved : Option ℕ → List (Option RefValue) → List Move
all_moved a [] = []
all_moved a (x ∷ xs) = moved a x ++ all_moved a xs

-- ---- who acts

-- The apartment that the Enter of a call names; None where the call was not entered.
abbrev pub entered_where : Option Admission → Option ℕ
entered_where x = option_map (λ (y : Admission). y.apartment) x

-- The apartment of the slots of whoever acts: that which the Enter names, and a script's home.
abbrev pub slots_where : Ground → Actor → Option ℕ
slots_where g (Body c o) = entered_where (g.admitted c)
slots_where g (Script l) = g.home l
slots_where g Nobody = None

-- The slots of whoever acts: those of the body's frame or of the script; none where nobody acts.
abbrev pub slots_of : Scene → Actor → List (Option RefValue)
slots_of w (Body c o) = (w.bodies c).slots
slots_of w (Script l) = (w.scripts l).slots
slots_of w Nobody = []

-- A write to a link of the body's object, in the apartment that the object's Made names. A script has no links.
abbrev pub link_moves : Ground → Scene → Actor → ℕ → Option RefValue → Moves
link_moves g w (Body c o) k held = record {
  lost = moved (Some (g.named o)) (slice_index_or (w.cells o).links k None);
  gained = moved (Some (g.named o)) held;
}
link_moves g w (Script l) k held = no_moves
link_moves g w Nobody k held = no_moves

-- A write to a slot or a link takes what stood there, and brings what is written.
abbrev pub write_moves : Ground → Scene → Actor → Write → Moves
write_moves g w a (ToRegister n v) = no_moves
write_moves g w a (ToSlot k held) = record {
  lost = moved (slots_where g a) (slice_index_or (slots_of w a) k None);
  gained = moved (slots_where g a) held;
}
write_moves g w a (ToLink k held) = link_moves g w a k held
write_moves g w a (ToBuffer p bytes) = no_moves

-- The moves of writes one after another, each in the scene that those before it leave.
abbrev pub writes_moves : Ground → Scene → Actor → List Write → Moves
writes_moves g w a [] = no_moves
writes_moves g w a (x ∷ xs) = together (write_moves g w a x) (writes_moves g (written a w x) a xs)

-- The moves of what an entry writes for whoever acts, once its step has set frame and cells; none without a step.
abbrev pub acted_moves : Ground → Scene → Actor → Option Outcome → Deed → Moves
acted_moves g w a None d = no_moves
acted_moves g w a (Some r) d = writes_moves g (with_frame a r w) a (writes r.action d)

-- ---- results, frames, links

-- The result of a direct call is at a place from its Leave to its Back.
abbrev pub result_moved : Ground → ℕ → Option Value → List Move
result_moved g c v =
    if is_direct (route_of (g.issue c)) && not (g.returned c)
    then moved (entered_where (g.admitted c)) (value_reference v) else []

-- What arrives with an entry. A Leave takes its frame's slots and brings a direct call's result, a Back takes that and
-- fills a slot, an Enter brings its values, an Uninit to count 0 takes the script's slots, and a Final links.
abbrev pub arrived_moves : Ground → Scene → (after : Actor) → (lane : ℕ) → Deed → Moves
arrived_moves g w b l (deed.Leave c hr v bytes) =
    record { lost = all_moved (entered_where (g.admitted c)) (w.bodies c).slots; gained = result_moved g c v }
arrived_moves g w b l (deed.Enter c o a k vs) =
    record { lost = []; gained = all_moved (Some a) (entered vs).slots }
arrived_moves g w b l (deed.Back c hr v) =
    together (record { lost = result_moved g c (left_value (g.left c)); gained = [] })
    (writes_moves g w b (to_answer hr ∷ to_destination (w.destinations c) v))
arrived_moves g w b l (deed.Uninit a zero) =
    record { lost = all_moved (g.home l) (w.scripts l).slots; gained = [] }
arrived_moves g w b l (deed.Final o) =
    record { lost = all_moved (Some (g.named o)) (w.cells o).links; gained = [] }
arrived_moves g w b l _ = no_moves

-- The end of an STA takes the links of all its objects.
abbrev pub links_moved : Ground → Scene → (apartment : ℕ) → List ℕ → List Move
links_moved g w a [] = []
links_moved g w a (o ∷ os) =
    (if g.named o == a then all_moved (Some a) (w.cells o).links else []) ++ links_moved g w a os

-- An STA that ends loses the links of its objects. Where none ends nothing moves.
abbrev pub ended_moves : Ground → Scene → Option ℕ → Moves
ended_moves g w None = no_moves
ended_moves g w (Some a) = record { lost = links_moved g w a (one_to g.objects); gained = [] }

-- ---- an entry

abbrev pub acting_in : Scenario → List Entry → Entry → Actor
acting_in s h e = acting s (class_of h) (issue h) (scene s h) (actor_in s h e.lane) e.deed

-- The body step of whoever makes an entry behind a history; None where nobody acts, as by a Final or an Uninit after
-- the script's end.
abbrev pub outcome_in : Scenario → List Entry → Entry → Option Outcome
outcome_in s h e = outcome s (class_of h) (issue h) (scene s h) (acting_in s h e)

abbrev pub after_acting : Scenario → List Entry → Entry → Scene
after_acting s h e = acted (acting_in s h e) (outcome_in s h e) e.deed (scene s h)

abbrev pub after_arriving : Scenario → List Entry → Entry → Scene
after_arriving s h e = arrived (actor_in s (e ∷ h) e.lane) e.lane e.deed (after_acting s h e)

-- All moves of an entry behind a history: of its action, then of what arrives with it, then of an STA that ends.
abbrev pub entry_moves : Scenario → List Entry → Entry → Moves
entry_moves s h e =
    together (acted_moves (ground s h) (scene s h) (acting_in s h e) (outcome_in s h e) e.deed)
    (together (arrived_moves (ground s h) (after_acting s h e) (actor_in s (e ∷ h) e.lane) e.lane e.deed)
    (ended_moves (ground s h) (after_arriving s h e) (ends_sta e.deed)))

-- What an apartment holds after an entry, with what it lost, is what it held before, with what it gained.
abbrev pub PlacesMove : Scenario → List Entry → Entry → Type 0
PlacesMove s h e =
    (a : ℕ) (t : Test)
    → places_that s (ground s (e ∷ h)) (scene s (e ∷ h)) a t + counted (entry_moves s h e).lost a t
    ≡ places_that s (ground s h) (scene s h) a t + counted (entry_moves s h e).gained a t
