-- What stands behind the drawing, and the constant texts of the page.
use Rattle.std.specs.Prelude.{ℕ, List, ◌++◌, codes}
use Rattle.com_draw_words.specs.declared.constants.TheConstants.{ARROW_STYLE, BODY_BACK, BODY_FRONT}
use Rattle.com_draw_words.specs.declared.constants.TheConstants.{BOX_STYLE, COLOURS, ENTRY_STYLE, HEAD_FRONT}
use Rattle.com_draw_words.specs.declared.constants.TheConstants.{KEY_OF_BOXES, KEY_OF_COLOURS, KEY_OF_MARKS}
use Rattle.com_draw_words.specs.declared.constants.TheConstants.{PAGE_STYLE, PRINT_STYLE, TAIL}

-- The front of the page's head, and the first of its styles: the colours, and the page as a whole.
abbrev pub colours_text : List ℕ
colours_text = HEAD_FRONT.now ++ COLOURS.now ++ PAGE_STYLE.now

-- The further styles: those of entries, boxes, arrows and the printed page.
abbrev pub shapes_text : List ℕ
shapes_text = ENTRY_STYLE.now ++ BOX_STYLE.now ++ ARROW_STYLE.now ++ PRINT_STYLE.now

-- The head of the page, up to where the first widths begin.
abbrev pub head_text : List ℕ
head_text = colours_text ++ shapes_text

-- What stands between the first widths and the names of the lanes.
abbrev pub body_text : List ℕ
body_text = BODY_FRONT.now ++ KEY_OF_BOXES.now ++ KEY_OF_MARKS.now ++ KEY_OF_COLOURS.now ++ BODY_BACK.now

-- The tail of the page.
abbrev pub tail_text : List ℕ
tail_text = TAIL.now

-- The end of the drawing, up to where the second widths begin.
abbrev pub drawing_end_text : List ℕ
drawing_end_text = codes "</main>\n<footer>\n<svg aria-hidden=\"true\"><style>"

-- The end of the second widths, and the page's heading.
abbrev pub styles_end_text : List ℕ
styles_end_text = codes "</style></svg>\n<h1>A history of COM calls</h1>\n"

-- What stands before the reasons and the events.
abbrev pub list_front_text : List ℕ
list_front_text = codes "<ul>\n"

-- What stands before each reason and each event.
abbrev pub item_front_text : List ℕ
item_front_text = codes "<li>"

-- What stands behind each reason and each event.
abbrev pub item_end_text : List ℕ
item_end_text = codes "</li>\n"

-- What stands behind the reasons and the events.
abbrev pub list_end_text : List ℕ
list_end_text = codes "</ul>\n"

-- What stands before the report.
abbrev pub report_front_text : List ℕ
report_front_text = codes "<details><summary>Report</summary><pre>\n"

-- What stands behind the report, up to the tail of the page.
abbrev pub report_end_text : List ℕ
report_end_text = codes "</pre></details>\n</footer>\n"
