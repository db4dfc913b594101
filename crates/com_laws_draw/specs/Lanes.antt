-- The boxes of a lane in a page: of what stood open in it.
use Rattle.std.specs.Prelude.{◌≡◌, ℕ, ◌+◌, ◌-◌, ◌==◌, ◌&&◌, ◌||◌, Bool, true, false, nat_le, if◌then◌else◌}
use Rattle.std.specs.Prelude.{List, [], ◌∷◌, ◌++◌, Option, Some, None, length}
use Rattle.com_model.specs.declared.deeds.Deed.{Deed}
use Rattle.com_model.specs.declared.deeds.Deed.TheVariants as deed
use Rattle.com_model.specs.declared.deeds.Entry.{Entry}
use Rattle.com_model.specs.declared.scenario.Scenario.{Scenario}
use Rattle.com_waits.specs.declared.reasons.Wait.{Wait}
use Rattle.com_draw_state.specs.declared.lanes.Lane.{Lane}
use Rattle.com_draw_state.specs.declared.stacks.Opening.{Opening}
use Rattle.com_draw_state.specs.declared.stacks.Start.{Start}
use Rattle.com_draw_state.specs.Board.{State}
use Rattle.com_draw_state.specs.Lanes.{lane_at}
use Rattle.com_draw_words.specs.declared.boxes.BoxKind.{BoxKind}
use Rattle.com_draw_words.specs.declared.boxes.BoxKind.TheVariants as kind
use Rattle.com_draw_words.specs.declared.boxes.BoxText.{BoxText}
use Rattle.com_draw_words.specs.declared.boxes.BoxText.TheVariants as inner
use Rattle.com_draw_words.specs.declared.boxes.Foot.TheVariants as foot
use Rattle.com_draw_words.specs.declared.limits.TheConstants.{LIMIT}
use Rattle.com_draw_shapes.specs.declared.effects.Closing.{Closing}
use Rattle.com_draw_shapes.specs.declared.effects.Closing.TheVariants as close
use Rattle.com_draw_shapes.specs.Effects.{closed_by}
use Rattle.com_draw_shapes.specs.Places.{opens_section, row_at, start_of}
use Rattle.com_draw_shapes.specs.Sections.{foot_in}
use Rattle.com_draw.specs.declared.beside.Beside.{Beside}
use Rattle.com_draw.specs.Ends.{rows_of}
use Rattle.com_draw.specs.Entries.{drawn}
use Rattle.com_draw.specs.Reasons.{cycle_in, waits_in}
use Rattle.com_laws_draw.specs.Boxes.{Placed, box_of_innermost, boxes_below}

-- ---- what stands open

-- All that is open in a lane, the outermost first; nothing where no lane has the number.
abbrev pub openings_of : Option Lane → List Opening
openings_of None = []
openings_of (Some row) = row.openings

-- All that is open in the lane with a number, the outermost first.
abbrev pub open_in : State → (lane : ℕ) → List Opening
open_in b l = openings_of (lane_at b.lanes l)

-- ---- the boxes of the rows

-- The box of what an entry closes in its lane.
abbrev pub box_closed : Start → (lane : ℕ) → Closing → State → List Placed
box_closed here l close.Innermost b = box_of_innermost here l (open_in b l)
box_closed here l _ b = []

abbrev pub boxes_of : Start → (lane : ℕ) → Entry → State → List Placed
boxes_of here l e b = if e.lane == l then box_closed here l (closed_by e.deed) b else []

-- Where a section begins with a row, the boxes of the section above.
abbrev pub boxes_before : (row lane : ℕ) → State → List Placed
boxes_before m l b = if m == 1 then [] else boxes_below (row_at (m - 1)) l foot.Down 1 (open_in b l)

abbrev pub boxes_above : (row lane : ℕ) → State → List Placed
boxes_above m l b = if opens_section m then boxes_before m l b else []

-- Those that stand in the page with an entry. Before the first one behind the limit the section ends.
abbrev pub boxes_at : (place lane : ℕ) → Entry → State → List Placed
boxes_at n l e b =
    if nat_le n LIMIT then boxes_above n l b ++ boxes_of (start_of n) l e b
    else if n == LIMIT + 1 then boxes_below (row_at LIMIT) l foot.Down 1 (open_in b l)
    else []

abbrev pub boxes_written : Scenario → (lane : ℕ) → List Entry → List Placed
boxes_written s l [] = []
boxes_written s l (e ∷ h) = boxes_written s l h ++ boxes_at ((drawn s h).entries + 1) l e (drawn s h).board

-- ---- the boxes behind the entries

-- Before the rows of lanes that wait.
abbrev pub boxes_of_waits : (row lane : ℕ) → State → List Wait → List Placed
boxes_of_waits m l b [] = []
boxes_of_waits m l b (w ∷ ws) = boxes_above m l b ++ boxes_of_waits (m + 1) l b ws

-- At the end of the last section.
abbrev pub boxes_last : (rows lane : ℕ) → (cycle : List ℕ) → State → List Placed
boxes_last m l cycle b = if m == 0 then [] else boxes_below (row_at m) l (foot_in cycle l) 1 (open_in b l)

abbrev pub boxes_behind : (entries lane : ℕ) → (cycle : List ℕ) → List Wait → State → List Placed
boxes_behind n l cycle ws b =
    boxes_of_waits (rows_of n + 1) l b ws ++ boxes_last (rows_of n + length ws) l cycle b

-- All boxes of a lane in the page of a history, in their order: of what stood open in it.
abbrev pub boxes_in : Scenario → (lane : ℕ) → List Entry → Beside → List Placed
boxes_in s l h x =
    boxes_written s l h
    ++ boxes_behind (drawn s h).entries l (cycle_in x.waits) (waits_in x.waits) (drawn s h).board

-- ---- whose they are

abbrev pub is_enter : (call : ℕ) → Deed → Bool
is_enter c (deed.Enter call object apartment call_type values) = call == c
is_enter c _ = false

-- Whether a lane entered a call.
abbrev pub has_entered : List Entry → (lane call : ℕ) → Bool
has_entered [] l c = false
has_entered (e ∷ h) l c = (e.lane == l && is_enter c e.deed) || has_entered h l c

-- A body's box has a call, which the lane entered.
abbrev pub IsRun : List Entry → (lane : ℕ) → BoxKind → BoxText → Type 0
IsRun h l kind.Body (inner.Call c) = has_entered h l c ≡ true
IsRun h l kind.Body _ = ⊥
IsRun h l _ t = Unit {0}

-- A box stands in the lane, and if it is a body's the lane ran it.
pub record StandsIn (h : List Entry) (l : ℕ) (x : Placed) : Type 0 where
  pub lane : x.box.lane ≡ l
  pub run : IsRun h l x.box.kind x.box.text
