-- The names of the lanes, and what stands around the rows of a section.
use Rattle.std.specs.Prelude.{ℕ, List, ◌++◌, codes}
use Rattle.com_base.specs.declared.apartments.TheConstants.{HOST_STA, MTA}
use Rattle.com_draw_words.specs.declared.boxes.TheConstants.{NO_HUE}
use Rattle.com_draw_words.specs.declared.sections.LaneKind.{LaneKind}
use Rattle.com_draw_words.specs.declared.sections.LaneKind.TheVariants as kind
use Rattle.com_draw_words.specs.Escapes.{word_and_number}

-- The hue of a lane's name: that of the host STA, that of the MTA for the pool, and one of no apartment for a thread.
abbrev pub lane_hue : LaneKind → ℕ
lane_hue kind.Thread = NO_HUE
lane_hue kind.Host = HOST_STA
lane_hue kind.Pool = MTA

-- What a lane is, behind its number.
abbrev pub lane_words : LaneKind → List ℕ
lane_words kind.Thread = codes "</b> thread</u>"
lane_words kind.Host = codes "</b> host STA a2</u>"
lane_words kind.Pool = codes "</b> pool of MTA a1</u>"

-- The name of a lane.
abbrev pub lane_name_text : ℕ → LaneKind → List ℕ
lane_name_text l k =
    word_and_number (codes "<u class=\"l") l ++ word_and_number (codes " k") (lane_hue k)
    ++ word_and_number (codes "\"><b>L") l ++ lane_words k

-- The name of the lane of the objects, and the end of the names.
abbrev pub objects_name_text : ℕ → List ℕ
objects_name_text l = word_and_number (codes "<u class=\"l") l ++ codes " k9\">objects</u></div>\n"

-- The front of a section, up to its columns.
abbrev pub section_front_text : List ℕ
section_front_text = codes "<section>\n<div aria-hidden=\"true\">"

-- The column of a lane in a section.
abbrev pub column_text : ℕ → List ℕ
column_text l = word_and_number (codes "<i class=\"col l") l ++ codes "\"></i>"

-- What stands behind the columns of a section, before its rows.
abbrev pub columns_end_text : List ℕ
columns_end_text = codes "</div>\n"

-- What stands before the boxes at a section's end.
abbrev pub section_back_text : List ℕ
section_back_text = codes "<div class=\"z\" aria-hidden=\"true\">"

-- What stands behind the boxes at a section's end.
abbrev pub section_end_text : List ℕ
section_end_text = codes "</div>\n</section>\n"
