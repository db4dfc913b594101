-- A page in pieces: its boxes, and the bytes between them.
use Rattle.std.specs.Prelude.{ℕ, ◌+◌, ◌-◌, ◌==◌, nat_le, if◌then◌else◌, List, [], ◌∷◌, ◌++◌, Option, Some, None}
use Rattle.std.specs.Prelude.{length}
use Rattle.com_base.specs.declared.apartments.TheConstants.{FIRST_STA}
use Rattle.com_model.specs.declared.deeds.Entry.{Entry}
use Rattle.com_model.specs.declared.scenario.Scenario.{Scenario}
use Rattle.com_waits.specs.declared.reasons.Wait.{Wait}
use Rattle.com_draw_state.specs.declared.lanes.Home.{Home}
use Rattle.com_draw_state.specs.declared.lanes.Lane.{Lane}
use Rattle.com_draw_state.specs.declared.stacks.Start.{Start}
use Rattle.com_draw_state.specs.declared.tracks.Track.{Track}
use Rattle.com_draw_state.specs.Board.{State}
use Rattle.com_draw_state.specs.Lanes.{lane_at}
use Rattle.com_draw_words.specs.declared.boxes.Foot.{Foot}
use Rattle.com_draw_words.specs.declared.boxes.Foot.TheVariants as foot
use Rattle.com_draw_words.specs.declared.limits.TheConstants.{LIMIT}
use Rattle.com_draw_words.specs.Boxes.{box_text}
use Rattle.com_draw_words.specs.Rows.{row_end_text}
use Rattle.com_draw_words.specs.Sections.{section_back_text, section_end_text}
use Rattle.com_draw_labels.specs.Labels.{label}
use Rattle.com_draw_shapes.specs.declared.boxes.Chosen.{Chosen}
use Rattle.com_draw_shapes.specs.declared.boxes.Chosen.TheVariants as chosen
use Rattle.com_draw_shapes.specs.declared.effects.Closing.{Closing}
use Rattle.com_draw_shapes.specs.declared.effects.Closing.TheVariants as close
use Rattle.com_draw_shapes.specs.Arrows.{pointing_text, touched_text}
use Rattle.com_draw_shapes.specs.Boxes.{chosen_track, home_box, home_in, objects_lane, track_box}
use Rattle.com_draw_shapes.specs.Effects.{closed_by, points_of, touched_by}
use Rattle.com_draw_shapes.specs.Places.{opens_section, row_at, start_of}
use Rattle.com_draw_shapes.specs.Sections.{foot_in, front_of_section}
use Rattle.com_draw.specs.declared.beside.Beside.{Beside}
use Rattle.com_draw.specs.declared.entries.Seen.{Seen}
use Rattle.com_draw.specs.Ends.{footer_text, gap_row, rows_of}
use Rattle.com_draw.specs.Entries.{drawn, entry_label, entry_lead, seen}
use Rattle.com_draw.specs.Fronts.{front}
use Rattle.com_draw.specs.Reasons.{all_labelled, cycle_in, reason_drawing, reason_lead, waits_in}
use Rattle.com_laws_draw.specs.Boxes.{Placed, box_of_innermost, boxes_below, placed}
use Rattle.com_laws_draw.specs.Lanes.{openings_of}

-- ---- pieces

-- Bytes that are no box, or a box.
pub data Piece : Type 0 where
  words : List ℕ → Piece
  box : Placed → Piece

abbrev pub piece_text : Piece → List ℕ
piece_text (words t) = t
piece_text (box x) = box_text x.box

-- The bytes of pieces, one behind another.
abbrev pub text_of : List Piece → List ℕ
text_of [] = []
text_of (p ∷ ps) = piece_text p ++ text_of ps

-- Those that are boxes, in their order.
abbrev pub box_in : Piece → List Placed → List Placed
box_in (words t) xs = xs
box_in (box x) xs = x ∷ xs

abbrev pub boxes_of : List Piece → List Placed
boxes_of [] = []
boxes_of (p ∷ ps) = box_in p (boxes_of ps)

abbrev pub all_boxes : List Placed → List Piece
all_boxes [] = []
all_boxes (x ∷ xs) = box x ∷ all_boxes xs

-- ---- boxes

-- The coloured ground of a lane that has a home.
abbrev pub grounds : Start → (lane : ℕ) → Foot → Option Home → List Placed
grounds here l f None = []
grounds here l f (Some home) = placed here (home_box here l f home) ∷ []

-- Those of a lane that go on below the section: its ground, and what is open on it.
abbrev pub lane_boxes : Start → (cycle : List ℕ) → (lane : ℕ) → Lane → List Placed
lane_boxes here cycle l row =
    grounds here l foot.Down row.home ++ boxes_below here l (foot_in cycle l) 1 row.openings

abbrev pub lanes_boxes : Start → (cycle : List ℕ) → (lane : ℕ) → List Lane → List Placed
lanes_boxes here cycle l [] = []
lanes_boxes here cycle l (row ∷ rows) = lane_boxes here cycle l row ++ lanes_boxes here cycle (l + 1) rows

-- The lives of objects on the chosen tracks.
abbrev pub life : Start → (lane : ℕ) → Foot → (number : ℕ) → Option Track → List Placed
life here m f k None = []
life here m f k (Some t) = placed here (track_box here m f k t) ∷ []

abbrev pub lives : Start → (lane : ℕ) → Foot → Chosen → (number : ℕ) → List (Option Track) → List Placed
lives here m f c k [] = []
lives here m f c k (t ∷ ts) = life here m f k (chosen_track c t) ++ lives here m f c (k + 1) ts

abbrev pub section_boxes : Start → (cycle : List ℕ) → State → List Placed
section_boxes here cycle b =
    lanes_boxes here cycle 1 b.lanes ++ lives here (objects_lane b) foot.Down chosen.All 0 b.tracks

abbrev pub lives_cut : Start → (apartment : ℕ) → State → List Placed
lives_cut here a b =
    if nat_le FIRST_STA a then lives here (objects_lane b) foot.Inner (chosen.LiveIn a) 0 b.tracks else []

-- What an entry closes in its lane.
abbrev pub boxes_closed : Start → (lane : ℕ) → Closing → State → List Placed
boxes_closed here l close.Nothing b = []
boxes_closed here l (close.Home a) b =
    grounds here l foot.Inner (home_in (lane_at b.lanes l)) ++ lives_cut here a b
boxes_closed here l close.Innermost b = box_of_innermost here l (openings_of (lane_at b.lanes l))
boxes_closed here l (close.Cut o) b = lives here (objects_lane b) foot.Inner (chosen.LiveOf o) 0 b.tracks
boxes_closed here l (close.Life o) b = lives here (objects_lane b) foot.Inner (chosen.Of o) 0 b.tracks

-- ---- sections and rows

abbrev pub section_end : Start → (cycle : List ℕ) → State → List Piece
section_end here cycle b =
    words section_back_text ∷ all_boxes (section_boxes here cycle b) ++ words section_end_text ∷ []

abbrev pub section_above : (row : ℕ) → State → List Piece
section_above m b = if m == 1 then [] else section_end (row_at (m - 1)) [] b

abbrev pub row_front : (row : ℕ) → State → List Piece
row_front m b = if opens_section m then section_above m b ++ words (front_of_section b) ∷ [] else []

-- What stands in an entry's row before the boxes: its words, its label, its arrow, and its object's mark.
abbrev pub row_words : Scenario → (place : ℕ) → State → Seen → Entry → List ℕ
row_words s n b v e =
    entry_lead s n v.context e
    ++ (entry_label v.level (label s v.context e) e
    ++ (pointing_text (points_of e.deed) e.lane v.depth v.waiter b ++ touched_text (touched_by e.deed) b))

abbrev pub row_pieces : Scenario → (place : ℕ) → State → Seen → Entry → List Piece
row_pieces s n b v e =
    row_front n b
    ++ (words (row_words s n b v e) ∷ all_boxes (boxes_closed (start_of n) e.lane (closed_by e.deed) b)
    ++ words row_end_text ∷ [])

abbrev pub pieces_at : Scenario → (place : ℕ) → State → Seen → Entry → List Piece
pieces_at s n b v e =
    if nat_le n LIMIT then row_pieces s n b v e
    else if n == LIMIT + 1 then section_end (row_at LIMIT) [] b
    else []

abbrev pub pieces_written : Scenario → List Entry → List Piece
pieces_written s [] = words (front s) ∷ []
pieces_written s (e ∷ h) =
    pieces_written s h
    ++ pieces_at s ((drawn s h).entries + 1) (drawn s h).board (seen (drawn s h).board e) e

-- ---- what stands behind the entries

abbrev pub wait_pieces : (row : ℕ) → (cycle : List ℕ) → State → Wait → List Piece
wait_pieces m cycle b w = row_front m b ++ words (reason_lead cycle w ++ reason_drawing cycle b w) ∷ []

abbrev pub waits_pieces : (row : ℕ) → (cycle : List ℕ) → State → List Wait → List Piece
waits_pieces m cycle b [] = []
waits_pieces m cycle b (w ∷ ws) = wait_pieces m cycle b w ++ waits_pieces (m + 1) cycle b ws

abbrev pub last_end : (rows : ℕ) → (cycle : List ℕ) → State → List Piece
last_end m cycle b = if m == 0 then [] else section_end (row_at m) cycle b

abbrev pub pieces_behind : (entries : ℕ) → (cycle : List ℕ) → List Wait → State → List Piece
pieces_behind n cycle ws b =
    words (gap_row n b) ∷ waits_pieces (rows_of n + 1) cycle b ws ++ last_end (rows_of n + length ws) cycle b

-- A page: its boxes in the order in which they are drawn, and all else between them.
abbrev pub page_pieces : Scenario → List Entry → Beside → List Piece
page_pieces s h x =
    pieces_written s h
    ++ (pieces_behind (drawn s h).entries (cycle_in x.waits) (waits_in x.waits) (drawn s h).board
    ++ words (footer_text (drawn s h).entries (all_labelled (waits_in x.waits) (drawn s h).board) x) ∷ [])

abbrev pub page_boxes : Scenario → List Entry → Beside → List Placed
page_boxes s h x = boxes_of (page_pieces s h x)
