-- The tables of the code, seen as the scene's tables, and which calls have a frame of their own.
use Rattle.std.specs.Prelude.{ℕ, Bool, false, List, [], Option, Some, None, IsTrue, is_some, map}
use Rattle.std.specs.Prelude.{slice_index_or}
use Rattle.com_body.specs.declared.operands.Destination.{Destination}
use Rattle.com_body.specs.Frames.{FrameView, entered}
use Rattle.com_model.specs.Frames.{Actor as Acting, Body}
use Rattle.com_model.specs.State.{SceneTables}
use Rattle.com_scene.specs.declared.tables.CallRow.{CallRow}
use Rattle.com_scene.specs.declared.tables.Tables.{Tables}

-- A call without a frame of its own has the frame of a body that was entered without values.
abbrev pub seat_of : Option FrameView → FrameView
seat_of None = entered []
seat_of (Some f) = f

abbrev pub body_of : CallRow → FrameView
body_of r = seat_of r.frame

abbrev pub destination_of : CallRow → Destination
destination_of r = r.destination

abbrev pub bodies_of : List CallRow → List FrameView
bodies_of rows = map body_of rows

abbrev pub destinations_of : List CallRow → List Destination
destinations_of rows = map destination_of rows

abbrev pub seen : Tables → SceneTables
seen t = record {
  scripts = t.scripts.items;
  bodies = bodies_of t.calls.items;
  cells = t.cells.items;
  buffers = t.buffers.items;
  destinations = destinations_of t.calls.items;
}

-- Whether each call has a frame of its own.
abbrev pub is_seated : CallRow → Bool
is_seated r = is_some r.frame

abbrev pub seats_of : List CallRow → List Bool
seats_of rows = map is_seated rows

-- The call has a frame of its own.
abbrev pub IsSeated : List Bool → (call : ℕ) → Type 0
IsSeated seats c = IsTrue (slice_index_or seats c false)

-- Each call that had a frame has one.
abbrev pub KeepsSeats : (before after : List Bool) → Type 0
KeepsSeats before after = (c : ℕ) → IsSeated before c → IsSeated after c

-- A body's own frame, or else the spare one.
abbrev pub own_or : Option FrameView → Option FrameView → Option FrameView
own_or None spare = spare
own_or (Some f) spare = Some f

-- There is a frame: the body's own, or a spare one.
abbrev pub HasFrame : (own : Bool) → (spare : Option FrameView) → Type 0
HasFrame own None = IsTrue own
HasFrame own (Some f) = Unit {0}

abbrev pub HasSeat : List Bool → (call : ℕ) → (spare : Option FrameView) → Type 0
HasSeat seats c spare = HasFrame (slice_index_or seats c false) spare

-- There is a frame for whoever acts, where it is a body.
abbrev pub HasSeatFor : List Bool → Acting → (spare : Option FrameView) → Type 0
HasSeatFor seats (Body c o) spare = HasSeat seats c spare
HasSeatFor seats _ spare = Unit {0}
