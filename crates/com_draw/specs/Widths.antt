-- The widths of lanes, which are known at the end.
use Rattle.std.specs.Prelude.{ℕ, ◌+◌, ◌*◌, max, if◌then◌else◌, List, [], ◌∷◌, ◌++◌, length}
use Rattle.com_draw_state.specs.declared.lanes.Lane.{Lane}
use Rattle.com_draw_state.specs.Board.{State}
use Rattle.com_draw_words.specs.declared.limits.TheConstants.{BESIDE, IDLE, LEAST, STORY_WIDTH, TRACK_WIDTH}
use Rattle.com_draw_words.specs.Widths.{lane_widths_text, main_width_text, page_size_text}
use Rattle.com_draw_shapes.specs.Boxes.{objects_lane}

-- A lane that made an entry is as wide as its labels ask for.
abbrev pub width_of : Lane → ℕ
width_of row = if row.has_acted then max row.width LEAST else IDLE

-- The width of the lane with this number, which begins at this pixel.
unfoldable pub lane_rule : (lane from : ℕ) → Lane → List ℕ
lane_rule l x row = lane_widths_text l x (width_of row)

-- The widths of lanes side by side, of which the first has this number and begins at this pixel.
abbrev pub lane_rules : (lane from : ℕ) → List Lane → List ℕ
lane_rules l x [] = []
lane_rules l x (row ∷ rows) = lane_rule l x row ++ lane_rules (l + 1) (x + width_of row) rows

-- How many pixels wide the lanes are together.
abbrev pub total_width : List Lane → ℕ
total_width [] = 0
total_width (row ∷ rows) = width_of row + total_width rows

-- The objects' lane has room for the tracks that were used.
abbrev pub objects_width : State → ℕ
objects_width b = length b.tracks * TRACK_WIDTH + BESIDE

-- The objects' lane begins at this pixel and is so wide; with it the widths of the drawing and of the printed page.
unfoldable pub objects_rules : (lane from width : ℕ) → List ℕ
objects_rules m x w =
    lane_widths_text m x w ++ main_width_text (x + w) ++ page_size_text (x + w + STORY_WIDTH)

-- The second widths, the width of the whole, and that of the printed page.
unfoldable pub widths_text : State → List ℕ
widths_text b =
    lane_rules 1 0 b.lanes ++ objects_rules (objects_lane b) (total_width b.lanes) (objects_width b)
