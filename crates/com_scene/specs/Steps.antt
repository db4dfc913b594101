-- What writes do to a frame, to cells and to the buffers, each on its own.
use Rattle.std.specs.Prelude.{ℕ, List, [], ◌∷◌, ◌++◌, Option, Some, None, pos, ◌==◌, if◌then◌else◌}
use Rattle.std.specs.Prelude.{slice_index_or, slice_set}
use Rattle.com_base.specs.declared.value.Value.TheVariants as value
use Rattle.com_base.specs.declared.hresult.HResult.{HResult}
use Rattle.com_body.specs.declared.actions.Action.{Action}
use Rattle.com_body.specs.declared.actions.Action.TheVariants as action
use Rattle.com_body.specs.declared.frame.Cells.{Cells}
use Rattle.com_body.specs.declared.frame.Outcome.{Outcome}
use Rattle.com_body.specs.declared.operands.Destination.TheVariants as destination
use Rattle.com_body.specs.Frames.{FrameView, entered, with_register, with_slot}
use Rattle.com_body.specs.Operands.{new_cells}
use Rattle.com_model.specs.declared.deeds.Deed.{Deed}
use Rattle.com_model.specs.declared.deeds.Deed.TheVariants as deed
use Rattle.com_model.specs.Frames.{Write as Writing, ToRegister, ToSlot, ToLink, ToBuffer, to_answer}
use Rattle.com_model.specs.Frames.{to_place, taken_in, cookie_in, marshalled_in, with_link}
use Rattle.com_model.specs.State.{SceneTables}
use Rattle.com_state.specs.SceneParts.{with_body, with_script, with_cells, with_buffer, without_links}
use Rattle.com_state.specs.SceneParts.{rows_acted}
use Rattle.com_scene.specs.Actors.{acting_of}
use Rattle.com_scene.specs.Ranges.{IsInRange}
use Rattle.com_scene.specs.declared.actor.Actor.{Actor}
use Rattle.com_scene.specs.declared.actor.Actor.TheVariants as actor
use Rattle.com_scene.specs.declared.writes.Write.{Write}
use Rattle.com_scene.specs.declared.writes.Write.TheVariants as write
use Rattle.com_scene.specs.declared.writes.Writes.{Writes}
use Rattle.com_scene.specs.declared.writes.Bytes.{Bytes}
use Rattle.com_scene.specs.declared.writes.Wanted.{Wanted}

abbrev pub writing_of : Write → Writing
writing_of (write.Register r v) = ToRegister r v
writing_of (write.Slot k held) = ToSlot k held
writing_of (write.Link k held) = ToLink k held
writing_of (write.Buffer p bytes) = ToBuffer p bytes

abbrev pub listed : Option HResult → Option Write → List Writing
listed None None = []
listed None (Some w) = writing_of w ∷ []
listed (Some hr) None = to_answer hr ∷ []
listed (Some hr) (Some w) = to_answer hr ∷ writing_of w ∷ []

abbrev pub writes_of : Writes → List Writing
writes_of w = listed w.answer w.more

abbrev pub IsMoreInRange : Option Write → Type 0
IsMoreInRange None = Unit {0}
IsMoreInRange (Some w) = IsInRange (writing_of w)

-- What an action writes after its HRESULT.
abbrev pub more_writes : Action → Deed → List Writing
more_writes (action.Create slot k i) d = ToSlot slot (taken_in d) ∷ []
more_writes (action.Query to held i) d = ToSlot to (taken_in d) ∷ []
more_writes (action.Copy to held) d = to_place to held ∷ []
more_writes (action.Release from held) d = to_place from None ∷ []
more_writes (action.Marshal b held m) d = marshalled_in b d
more_writes (action.Unmarshal slot b) d = ToSlot slot (taken_in d) ∷ []
more_writes (action.Raw b bytes) d = ToBuffer b bytes ∷ []
more_writes (action.Register to held) d = ToRegister to (value.Int (pos (cookie_in d))) ∷ []
more_writes (action.Get slot g) d = ToSlot slot (taken_in d) ∷ []
more_writes _ d = []

abbrev pub raw_writes : Action → List Writing
raw_writes (action.Raw b bytes) = ToBuffer b bytes ∷ []
raw_writes _ = []

abbrev pub frame_with : FrameView → Writing → FrameView
frame_with f (ToRegister r v) = with_register f r v
frame_with f (ToSlot k held) = with_slot f k held
frame_with f (ToLink k held) = f
frame_with f (ToBuffer p bytes) = f

abbrev pub cells_with : Cells → Writing → Cells
cells_with c (ToLink k held) = with_link c k held
cells_with c _ = c

-- The bytes that a write puts in a buffer.
abbrev pub bytes_in : Writing → Option Bytes
bytes_in (ToBuffer p bytes) = Some (record { buffer = p; bytes = bytes })
bytes_in _ = None

abbrev pub bytes_of : Option Write → Option Bytes
bytes_of None = None
bytes_of (Some w) = bytes_in (writing_of w)

abbrev pub with_bytes : Option Bytes → SceneTables → SceneTables
with_bytes None t = t
with_bytes (Some b) t = with_buffer t b.buffer b.bytes

-- Whoever acts goes on to a frame and cells, and puts bytes in a buffer.
abbrev pub stepped : Actor → FrameView → Cells → Option Bytes → SceneTables → SceneTables
stepped (actor.Body c o) f k b t = with_bytes b (with_cells (with_body t c f) o k)
stepped (actor.Script l) f k b t = with_bytes b (with_script t l f)
stepped actor.Nobody f k b t = t

-- Where the result of a call that an entry issues is to go.
abbrev pub wanted_of : Action → Deed → Option Wanted
wanted_of (action.Call held i m args to) (deed.Out c o j n r k bytes) =
    Some (record { call = c; destination = to })
wanted_of _ d = None

abbrev pub with_wanted : Option Wanted → SceneTables → SceneTables
with_wanted None t = t
with_wanted (Some w) t = record t { destinations = slice_set t.destinations w.call w.destination }

-- The cells of an object where an apartment ends, by the list of owners.
abbrev pub cut_by : (owners : List ℕ) → (apartment : ℕ) → ℕ → Cells → Cells
cut_by owners a o c = if slice_index_or owners o 0 == a then without_links c else c

-- A row for a call that is issued, and one for an object that is made.
abbrev pub with_call : SceneTables → SceneTables
with_call t = record t {
  bodies = t.bodies ++ entered [] ∷ [];
  destinations = t.destinations ++ destination.Nowhere ∷ [];
}

abbrev pub with_object : SceneTables → SceneTables
with_object t = record t { cells = t.cells ++ new_cells ∷ [] }

-- The tables after the step of whoever acts.
abbrev pub acted : Actor → Option Outcome → Deed → SceneTables → SceneTables
acted a r d t = rows_acted (acting_of a) r d t
