-- What stands behind the entries: the gap, why the history is stuck, the last section's end, and what the whole
-- was.
use Rattle.std.specs.Prelude.{ℕ, ◌+◌, ◌-◌, ◌==◌, ◌&&◌, nat_le, if◌then◌else◌, List, [], ◌∷◌, ◌++◌, length}
use Rattle.com_model.specs.declared.counts.Counts.{Counts}
use Rattle.com_model.specs.declared.counts.Ended.{Ended}
use Rattle.com_model.specs.Text.{report_text}
use Rattle.com_deliveries.specs.declared.Delivery.{Delivery}
use Rattle.com_waits.specs.declared.reasons.Wait.{Wait}
use Rattle.com_draw_state.specs.Board.{State}
use Rattle.com_draw_words.specs.declared.limits.TheConstants.{LIMIT}
use Rattle.com_draw_words.specs.Ends.{drawing_end_text, item_end_text, item_front_text, list_end_text}
use Rattle.com_draw_words.specs.Ends.{list_front_text, report_end_text, report_front_text, styles_end_text}
use Rattle.com_draw_words.specs.Ends.{tail_text}
use Rattle.com_draw_words.specs.Rows.{gap_text}
use Rattle.com_draw_words.specs.Widths.{event_style_text}
use Rattle.com_draw_stories.specs.Ends.{event_text, ring_text, summary_text}
use Rattle.com_draw_shapes.specs.Places.{row_at}
use Rattle.com_draw_shapes.specs.Sections.{back_of_section, front_of_section}
use Rattle.com_draw.specs.declared.beside.Beside.{Beside}
use Rattle.com_draw.specs.Pictures.{Picture}
use Rattle.com_draw.specs.Reasons.{all_labelled, cycle_in, reason_rows, reason_story, waits_in}
use Rattle.com_draw.specs.Widths.{widths_text}

-- ---- the drawing's end

-- How many rows there are behind so many entries: one for each, up to the limit, and one for all others.
abbrev pub rows_of : (entries : ℕ) → ℕ
rows_of n = if nat_le n LIMIT then n else LIMIT + 1

-- The entries that have no row are counted in one row, with which a section begins.
unfoldable pub gap_row : (entries : ℕ) → State → List ℕ
gap_row n b = if nat_le n LIMIT then [] else front_of_section b ++ gap_text (n - LIMIT)

-- The end of the last section, behind so many rows.
unfoldable pub last_back : (rows : ℕ) → (cycle : List ℕ) → State → List ℕ
last_back m cycle b = if m == 0 then [] else back_of_section (row_at m) cycle b

-- What the drawing has behind so many entries: the row that counts those without one, a row for each lane that waits,
-- and the end of the last section.
unfoldable pub last_rows : (entries : ℕ) → (cycle : List ℕ) → List Wait → State → List ℕ
last_rows n cycle ws b =
    gap_row n b ++ reason_rows (rows_of n + 1) cycle b ws ++ last_back (rows_of n + length ws) cycle b

-- ---- what the whole was

-- The rules that mark the labels of these events' calls.
abbrev pub event_styles : List Delivery → List ℕ
event_styles [] = []
event_styles (d ∷ ds) = event_style_text d.call ++ event_styles ds

-- An item of the list: why a lane waits.
unfoldable pub reason_item : Wait → List ℕ
reason_item w = item_front_text ++ reason_story w.lane w.why ++ item_end_text

-- An item for each lane that waits.
abbrev pub reason_items : List Wait → List ℕ
reason_items [] = []
reason_items (w ∷ ws) = reason_item w ++ reason_items ws

-- The item that names the lanes of the cycle; no item where there is no cycle.
unfoldable pub ring_item : (cycle : List ℕ) → List ℕ
ring_item cycle = if length cycle == 0 then [] else item_front_text ++ ring_text cycle ++ item_end_text

-- An item of the list: the call of an event, and the sinks that got it, by their cookies.
unfoldable pub event_item : Delivery → List ℕ
event_item d = item_front_text ++ event_text d.call d.cookies ++ item_end_text

-- An item for each event.
abbrev pub event_items : List Delivery → List ℕ
event_items [] = []
event_items (d ∷ ds) = event_item d ++ event_items ds

-- Why each lane waits, then the cycle, then each event.
unfoldable pub all_items : List Wait → (cycle : List ℕ) → List Delivery → List ℕ
all_items ws cycle ds = reason_items ws ++ ring_item cycle ++ event_items ds

-- The list of these items, from its beginning to its end.
unfoldable pub items_text : List Wait → (cycle : List ℕ) → List Delivery → List ℕ
items_text ws cycle ds = list_front_text ++ all_items ws cycle ds ++ list_end_text

-- The reasons and the events, where there are some.
unfoldable pub list_text : List Wait → (cycle : List ℕ) → List Delivery → List ℕ
list_text ws cycle ds = if length ws == 0 && length ds == 0 then [] else items_text ws cycle ds

-- The rules that are known only at the end: the second widths, and the marks of events.
unfoldable pub last_styles : State → List Delivery → List ℕ
last_styles b ds = widths_text b ++ event_styles ds

-- The end of the drawing, with these rules behind it.
unfoldable pub styles_text : State → List Delivery → List ℕ
styles_text b ds = drawing_end_text ++ last_styles b ds ++ styles_end_text

-- The report in the page, folded up under the word `Report`.
unfoldable pub report_part : List Counts → (entries clock : ℕ) → Ended → List ℕ
report_part counts n clock ended = report_front_text ++ report_text counts n clock ended ++ report_end_text

-- How it ended, why it is stuck, and the events.
unfoldable pub told_text : (entries : ℕ) → Beside → List ℕ
told_text n x =
    summary_text x.ended n x.clock ++ list_text (waits_in x.waits) (cycle_in x.waits) x.events

-- What is said of the whole, and the report behind it.
unfoldable pub said_text : (entries : ℕ) → Beside → List ℕ
said_text n x = told_text n x ++ report_part x.counts n x.clock x.ended

-- What stands behind the drawing: the rules that are known at the end, what is said of the whole, and the page's tail.
unfoldable pub footer_text : (entries : ℕ) → State → Beside → List ℕ
footer_text n b x = styles_text b x.events ++ said_text n x ++ tail_text

-- All that stands behind the entries.
unfoldable pub end_text : Picture → Beside → List ℕ
end_text p x =
    last_rows p.entries (cycle_in x.waits) (waits_in x.waits) p.board
    ++ footer_text p.entries (all_labelled (waits_in x.waits) p.board) x
