-- The fronts and the ends of sections.
use Rattle.std.specs.Prelude.{ℕ, zero, suc, ◌+◌, ◌-◌, Bool, ◌==◌, if◌then◌else◌, List, [], ◌∷◌, ◌++◌}
use Rattle.com_model.specs.Lists.{is_member}
use Rattle.com_draw_state.specs.declared.lanes.Lane.{Lane}
use Rattle.com_draw_state.specs.declared.stacks.Start.{Start}
use Rattle.com_draw_state.specs.Board.{State}
use Rattle.com_draw_words.specs.declared.boxes.Foot.{Foot}
use Rattle.com_draw_words.specs.declared.boxes.Foot.TheVariants as foot
use Rattle.com_draw_words.specs.Sections.{column_text, columns_end_text, section_back_text, section_end_text}
use Rattle.com_draw_words.specs.Sections.{section_front_text}
use Rattle.com_draw_shapes.specs.declared.boxes.Chosen.TheVariants as chosen
use Rattle.com_draw_shapes.specs.Boxes.{home_boxes, objects_lane, opening_boxes, track_boxes}
use Rattle.com_draw_shapes.specs.Places.{opens_section, row_at}

-- The columns of so many lanes, of which the first has this number.
abbrev pub columns : (lane count : ℕ) → List ℕ
columns l zero = []
columns l (suc n) = column_text l ++ columns (l + 1) n

-- A column for each lane and for the objects.
unfoldable pub front_of_section : State → List ℕ
front_of_section b = section_front_text ++ columns 1 (objects_lane b) ++ columns_end_text

-- In the last section the boxes of the lanes of the cycle are marked; what is no last one has no cycle.
abbrev pub foot_in : (cycle : List ℕ) → (lane : ℕ) → Foot
foot_in cycle l = if is_member l cycle then foot.Ring else foot.Down

-- The boxes of a lane that go on below the section: its home's, and those of what is open in it.
unfoldable pub lane_boxes : Start → (cycle : List ℕ) → (lane : ℕ) → Lane → List ℕ
lane_boxes here cycle l row =
    home_boxes here l foot.Down row.home ++ opening_boxes here l (foot_in cycle l) 1 row.openings

-- The boxes of lanes, of which the first has this number.
abbrev pub lanes_boxes : Start → (cycle : List ℕ) → (lane : ℕ) → List Lane → List ℕ
lanes_boxes here cycle l [] = []
lanes_boxes here cycle l (row ∷ rows) = lane_boxes here cycle l row ++ lanes_boxes here cycle (l + 1) rows

-- The boxes of all that goes on below the section: those of lanes, and those of objects.
unfoldable pub boxes_below : Start → (cycle : List ℕ) → State → List ℕ
boxes_below here cycle b =
    lanes_boxes here cycle 1 b.lanes ++ track_boxes here (objects_lane b) foot.Down chosen.All 0 b.tracks

-- The end of a section, whose last row is here.
unfoldable pub back_of_section : Start → (cycle : List ℕ) → State → List ℕ
back_of_section here cycle b = section_back_text ++ boxes_below here cycle b ++ section_end_text

-- The end of the section above one that begins with this row; before the first row there is none.
abbrev pub row_before : (row : ℕ) → State → List ℕ
row_before m b = if m == 1 then [] else back_of_section (row_at (m - 1)) [] b

-- All that stands before a row: where a section begins with it, the end of the one above and its own front.
unfoldable pub row_begins : (row : ℕ) → State → List ℕ
row_begins m b = if opens_section m then row_before m b ++ front_of_section b else []
