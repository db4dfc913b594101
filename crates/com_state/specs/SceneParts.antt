-- The scene of a core as tables, and how an entry changes them: each write changes one row. The tables are
-- those of the state's definition; a row beside them is kept as it is.
use Rattle.std.specs.Prelude.{ℕ, zero, ◌==◌, if◌then◌else◌, List, [], ◌∷◌, Option, Some, None, fold}
use Rattle.std.specs.Prelude.{replicate, slice_index_or, slice_set}
use Rattle.com_base.specs.declared.limits.TheConstants.{SLOT_COUNT, LINK_COUNT}
use Rattle.com_body.specs.declared.operands.Destination.{Destination}
use Rattle.com_body.specs.declared.operands.Destination.TheVariants as destination
use Rattle.com_body.specs.declared.actions.Action.{Action}
use Rattle.com_body.specs.declared.actions.Action.TheVariants as action
use Rattle.com_body.specs.declared.frame.Cells.{Cells}
use Rattle.com_body.specs.declared.frame.Outcome.{Outcome}
use Rattle.com_body.specs.Frames.{FrameView, entered, with_register, with_slot}
use Rattle.com_body.specs.Operands.{new_cells}
use Rattle.com_model.specs.declared.deeds.Deed.{Deed}
use Rattle.com_model.specs.declared.deeds.Deed.TheVariants as deed
use Rattle.com_model.specs.declared.deeds.Entry.{Entry}
use Rattle.com_model.specs.Answers.{S_OK}
use Rattle.com_model.specs.Lists.{each_from}
use Rattle.com_model.specs.Apartments.{ends_sta}
use Rattle.com_model.specs.Objects.{makes}
use Rattle.com_model.specs.Frames.{Actor, Body, Script, Nobody, Write, ToRegister, ToSlot, ToLink, ToBuffer}
use Rattle.com_model.specs.Frames.{with_link, writes, to_answer, to_destination}
use Rattle.com_model.specs.State.{SceneTables, grown, issued_by}
use Rattle.std.specs.Prelude.{is_some}

-- The frame of a lane's script; that of a script which has not begun where the lane has no row.
abbrev pub script_at : SceneTables → ℕ → FrameView
script_at t l = slice_index_or t.scripts l (entered [])

-- The frame of a call's body; without values and at its beginning where the call has no row.
abbrev pub body_at : SceneTables → ℕ → FrameView
body_at t c = slice_index_or t.bodies c (entered [])

-- The cells of an object; those of a new one where it has no row.
abbrev pub cells_at : SceneTables → ℕ → Cells
cells_at t o = slice_index_or t.cells o new_cells

-- Where the result of a call is to go: nowhere, where the call has no row.
abbrev pub destination_at : SceneTables → ℕ → Destination
destination_at t c = slice_index_or t.destinations c destination.Nowhere

-- The scene with this frame for a lane's script, where the lane has a row.
abbrev pub with_script : SceneTables → ℕ → FrameView → SceneTables
with_script t l f = record t { scripts = slice_set t.scripts l f }

-- The scene with this frame for a call's body, where the call has a row.
abbrev pub with_body : SceneTables → ℕ → FrameView → SceneTables
with_body t c f = record t { bodies = slice_set t.bodies c f }

-- The scene with these cells for an object, where it has a row.
abbrev pub with_cells : SceneTables → ℕ → Cells → SceneTables
with_cells t o x = record t { cells = slice_set t.cells o x }

-- The scene with these bytes in a packet buffer, where it has a row.
abbrev pub with_buffer : SceneTables → ℕ → List ℕ → SceneTables
with_buffer t p bytes = record t { buffers = slice_set t.buffers p bytes }

-- A new row for a call that is issued, and for an object that is made.
abbrev pub with_rows : Entry → SceneTables → SceneTables
with_rows e t = record t {
  bodies = grown (issued_by e) (entered []) t.bodies;
  destinations = grown (issued_by e) destination.Nowhere t.destinations;
  cells = grown (is_some (makes e.deed)) new_cells t.cells;
}

-- One write, in the frame of whoever acts, in the links of the body's object, or in the buffers that all
-- share.
abbrev pub body_written : SceneTables → (call object : ℕ) → Write → SceneTables
body_written t c o (ToRegister r v) = with_body t c (with_register (body_at t c) r v)
body_written t c o (ToSlot k held) = with_body t c (with_slot (body_at t c) k held)
body_written t c o (ToLink k held) = with_cells t o (with_link (cells_at t o) k held)
body_written t c o (ToBuffer p bytes) = with_buffer t p bytes

abbrev pub script_written : SceneTables → (lane : ℕ) → Write → SceneTables
script_written t l (ToRegister r v) = with_script t l (with_register (script_at t l) r v)
script_written t l (ToSlot k held) = with_script t l (with_slot (script_at t l) k held)
script_written t l (ToLink k held) = t
script_written t l (ToBuffer p bytes) = with_buffer t p bytes

-- One write of an entry: a body's, or a script's. Where nobody acts nothing is written.
abbrev pub row_written : Actor → SceneTables → Write → SceneTables
row_written (Body c o) t x = body_written t c o x
row_written (Script l) t x = script_written t l x
row_written Nobody t x = t

-- The step of whoever acts: its frame and cells.
abbrev pub rows_framed : Actor → Outcome → SceneTables → SceneTables
rows_framed (Body c o) r t = with_cells (with_body t c r.frame) o r.cells
rows_framed (Script l) r t = with_script t l r.frame
rows_framed Nobody r t = t

-- The Out entry of a call keeps where the result is to go.
abbrev pub row_wanted : Action → Deed → SceneTables → SceneTables
row_wanted (action.Call held i m args to) (deed.Out c o j n r k bytes) t =
    record t { destinations = slice_set t.destinations c to }
row_wanted _ d t = t

-- What an entry's action leaves: the frame and cells of its step, then its writes, then where the result of a call
-- is to go. Without a step all stays.
abbrev pub rows_acted : Actor → Option Outcome → Deed → SceneTables → SceneTables
rows_acted a None d t = t
rows_acted a (Some r) d t =
    row_wanted r.action d (fold (row_written a) (rows_framed a r t) (writes r.action d))

-- An Enter begins a frame, and a Leave forgets it. A Back and an EndPump write for whoever acts after them.
-- An Uninit to count 0 makes the script's slots null, and a Final the object's links.
abbrev pub rows_arrived : (after : Actor) → (lane : ℕ) → Deed → SceneTables → SceneTables
rows_arrived b l (deed.Leave c hr v bytes) t = with_body t c (entered [])
rows_arrived b l (deed.Enter c o a k vs) t = with_body t c (entered vs)
rows_arrived b l (deed.Back c hr v) t =
    fold (row_written b) t (to_answer hr ∷ to_destination (destination_at t c) v)
rows_arrived b l deed.EndPump t = row_written b t (to_answer S_OK)
rows_arrived b l (deed.Uninit a zero) t =
    with_script t l (record (script_at t l) { slots = replicate SLOT_COUNT None })
rows_arrived b l (deed.Final o) t = with_cells t o (record (cells_at t o) { links = replicate LINK_COUNT None })
rows_arrived b l _ t = t

-- The cells of an object with all its links null.
abbrev pub without_links : Cells → Cells
without_links c = record c { links = replicate LINK_COUNT None }

-- The scene with null links for all objects whose Made names the STA that ends, if one ends.
abbrev pub links_cut : (named : ℕ → ℕ) → Option ℕ → SceneTables → SceneTables
links_cut named None t = t
links_cut named (Some a) t =
    record t { cells = each_from (λ o c. if named o == a then without_links c else c) 0 t.cells }

-- The tables after an entry, with who acts in its lane, the step of whoever does, and who acts there
-- afterwards.
abbrev pub rows_after : (named : ℕ → ℕ) → (acting : Actor) → Option Outcome → (after : Actor) → Entry
    → SceneTables → SceneTables
rows_after named a r b e t =
    links_cut named (ends_sta e.deed) (rows_arrived b e.lane e.deed (rows_acted a r e.deed (with_rows e t)))
