-- A step with its writes one by one is the step with all of them.
use Rattle.std.proofs.Common.{◌≡◌, ℕ, List, [], Option, Some, None, fold, refl, sym, ◌∙◌, ap, slice_set, pos}
use Rattle.com_base.specs.declared.hresult.HResult.{HResult}
use Rattle.com_base.specs.declared.value.Value.TheVariants as value
use Rattle.com_body.specs.declared.actions.Action.{Action}
use Rattle.com_body.specs.declared.actions.Action.TheVariants as action
use Rattle.com_body.specs.declared.frame.Cells.{Cells}
use Rattle.com_body.specs.declared.frame.Outcome.{Outcome}
use Rattle.com_body.specs.Frames.{FrameView, entered, with_register, with_slot}
use Rattle.com_body.specs.Operands.{new_cells}
use Rattle.com_model.specs.declared.deeds.Deed.{Deed}
use Rattle.com_model.specs.declared.deeds.Deed.TheVariants as deed
use Rattle.com_model.specs.Frames.{Write as Writing, with_link, writes}
use Rattle.com_model.specs.State.{SceneTables}
use Rattle.com_state.specs.SceneParts.{row_written, row_wanted, rows_framed, rows_acted}
use Rattle.com_scene.specs.declared.actor.Actor.{Actor}
use Rattle.com_scene.specs.declared.actor.Actor.TheVariants as actor
use Rattle.com_scene.specs.declared.writes.Write.{Write}
use Rattle.com_scene.specs.declared.writes.Write.TheVariants as write
use Rattle.com_scene.specs.Actors.{acting_of}
use Rattle.com_scene.specs.Steps.{writing_of, listed, frame_with, cells_with, bytes_of, stepped, wanted_of, with_wanted}
use Rattle.com_scene.proofs.RowLemmas.{set_on}

-- One write after the step of a body.
pub body_write : (t : SceneTables) (c o : ℕ) (f : FrameView) (k : Cells) (w : Write) →
    row_written (acting_of (actor.Body c o)) (stepped (actor.Body c o) f k None t) (writing_of w)
    ≡ stepped (actor.Body c o) (frame_with f (writing_of w)) (cells_with k (writing_of w)) (bytes_of (Some w)) t
body_write t c o f k (write.Register r v) =
    ap (λ (bodies : List FrameView). record t { bodies = bodies; cells = slice_set t.cells o k })
    (set_on (λ (g : FrameView). with_register g r v) t.bodies c f (entered []))
body_write t c o f k (write.Slot n held) =
    ap (λ (bodies : List FrameView). record t { bodies = bodies; cells = slice_set t.cells o k })
    (set_on (λ (g : FrameView). with_slot g n held) t.bodies c f (entered []))
body_write t c o f k (write.Link n held) =
    ap (λ (cells : List Cells). record t { bodies = slice_set t.bodies c f; cells = cells })
    (set_on (λ (g : Cells). with_link g n held) t.cells o k new_cells)
body_write t c o f k (write.Buffer p bytes) = refl

-- One write after the step of a script.
pub script_write : (t : SceneTables) (l : ℕ) (f : FrameView) (k : Cells) (w : Write) →
    row_written (acting_of (actor.Script l)) (stepped (actor.Script l) f k None t) (writing_of w)
    ≡ stepped (actor.Script l) (frame_with f (writing_of w)) (cells_with k (writing_of w)) (bytes_of (Some w)) t
script_write t l f k (write.Register r v) =
    ap (λ (scripts : List FrameView). record t { scripts = scripts }) (set_on (λ (g : FrameView). with_register g r v) t.scripts l f (entered []))
script_write t l f k (write.Slot n held) =
    ap (λ (scripts : List FrameView). record t { scripts = scripts }) (set_on (λ (g : FrameView). with_slot g n held) t.scripts l f (entered []))
script_write t l f k (write.Link n held) = refl
script_write t l f k (write.Buffer p bytes) = refl

pub one_write : (a : Actor) (t : SceneTables) (f : FrameView) (k : Cells) (w : Write) →
    row_written (acting_of a) (stepped a f k None t) (writing_of w)
    ≡ stepped a (frame_with f (writing_of w)) (cells_with k (writing_of w)) (bytes_of (Some w)) t
one_write (actor.Body c o) t f k w = body_write t c o f k w
one_write (actor.Script l) t f k w = script_write t l f k w
one_write actor.Nobody t f k w = refl

answer_write : HResult → Write
answer_write hr = write.Register 15 (value.Int (pos hr.0))

-- The HRESULT, and then what the destination takes.
pub all_writes : (a : Actor) (t : SceneTables) (f : FrameView) (k : Cells) (answer : Option HResult) (more : Option Write) →
    fold (row_written (acting_of a)) (stepped a f k None t) (listed answer more)
    ≡ stepped a (fold frame_with f (listed answer more)) (fold cells_with k (listed answer more)) (bytes_of more) t
unfolding answer_write
all_writes a t f k None None = refl
all_writes a t f k None (Some w) = one_write a t f k w
all_writes a t f k (Some hr) None = one_write a t f k (answer_write hr)
all_writes a t f k (Some hr) (Some w) =
    ap (λ (u : SceneTables). row_written (acting_of a) u (writing_of w)) (one_write a t f k (answer_write hr))
    ∙ one_write a t (with_register f 15 (value.Int (pos hr.0))) k w

framed_is : (a : Actor) (r : Outcome) (t : SceneTables) → rows_framed (acting_of a) r t ≡ stepped a r.frame r.cells None t
framed_is (actor.Body c o) r t = refl
framed_is (actor.Script l) r t = refl
framed_is actor.Nobody r t = refl

pub wanted_is : (x : Action) (d : Deed) (t : SceneTables) → row_wanted x d t ≡ with_wanted (wanted_of x d) t
wanted_is (action.Call held i m args to) (deed.Out c o j n r k bytes) t = refl
wanted_is _ d t = refl

pub acted_is : (a : Actor) (r : Outcome) (d : Deed) (t : SceneTables) (answer : Option HResult) (more : Option Write) →
    listed answer more ≡ writes r.action d →
    with_wanted (wanted_of r.action d)
    (stepped a (fold frame_with r.frame (listed answer more)) (fold cells_with r.cells (listed answer more)) (bytes_of more) t)
    ≡ rows_acted (acting_of a) (Some r) d t
acted_is a r d t answer more e =
    sym (wanted_is r.action d _)
    ∙ ap (λ (u : SceneTables). row_wanted r.action d u)
    (sym (all_writes a t r.frame r.cells answer more)
    ∙ ap (λ (u : SceneTables). fold (row_written (acting_of a)) u (listed answer more)) (sym (framed_is a r t))
    ∙ ap (λ (ws : List Writing). fold (row_written (acting_of a)) (rows_framed (acting_of a) r t) ws) e)
