-- The row of an entry, and what the picture is after it.
use Rattle.std.specs.Prelude.{ℕ, ◌+◌, ◌==◌, nat_le, if◌then◌else◌, List, [], ◌∷◌, ◌++◌, Option, Some, None}
use Rattle.std.specs.Prelude.{codes, decimal, length}
use Rattle.com_model.specs.declared.deeds.Deed.{Deed}
use Rattle.com_model.specs.declared.deeds.Entry.{Entry}
use Rattle.com_model.specs.declared.scenario.Scenario.{Scenario}
use Rattle.com_model.specs.Text.{deed_line}
use Rattle.com_draw_state.specs.declared.lanes.Waiter.{Waiter}
use Rattle.com_draw_state.specs.Board.{State, with_lanes}
use Rattle.com_draw_state.specs.Lanes.{depth_of, lane_at, waiter_in, widened, with_lane}
use Rattle.com_draw_words.specs.declared.limits.TheConstants.{LIMIT}
use Rattle.com_draw_words.specs.Labels.{label_text, label_width}
use Rattle.com_draw_words.specs.Rows.{entry_front_text, row_end_text, row_middle_text}
use Rattle.com_draw_names.specs.declared.contexts.Caller.{Caller}
use Rattle.com_draw_names.specs.declared.contexts.Context.{Context}
use Rattle.com_draw_labels.specs.Labels.{label}
use Rattle.com_draw_labels.specs.Looks.{call_of, has_label, look, mark_of}
use Rattle.com_draw_stories.specs.Calls.{story}
use Rattle.com_draw_shapes.specs.declared.effects.Opens.{Opens}
use Rattle.com_draw_shapes.specs.declared.effects.Opens.TheVariants as opens
use Rattle.com_draw_shapes.specs.Arrows.{pointing_text, touched_text}
use Rattle.com_draw_shapes.specs.Boxes.{closing_boxes}
use Rattle.com_draw_shapes.specs.Changes.{changed, own_home}
use Rattle.com_draw_shapes.specs.Effects.{closed_by, opened_by, points_of, touched_by}
use Rattle.com_draw_shapes.specs.Places.{row_at, start_of}
use Rattle.com_draw_shapes.specs.Sections.{back_of_section, row_begins}
use Rattle.com_draw.specs.declared.entries.Seen.{Seen}
use Rattle.com_draw.specs.Pictures.{Picture, first}

-- ---- what is seen of the board before an entry

-- Who waits for the entry's call, where it has one.
abbrev pub waiter_of : State → (call : Option ℕ) → Option Waiter
waiter_of b None = None
waiter_of b (Some c) = waiter_in 1 b.lanes c

abbrev pub caller_of : Option Waiter → Option Caller
caller_of None = None
caller_of (Some w) = Some (record { lane = w.lane; iface = w.iface; method = w.method })

-- By how much an entry makes its lane deeper.
abbrev pub rise : Opens → ℕ
rise opens.Nothing = 0
rise (opens.Home a) = 0
rise (opens.Life o a) = 0
rise (opens.Level w) = 1

-- The words of an entry stand at the greater of the depths of its lane before it and after it.
unfoldable pub seen : State → Entry → Seen
seen b e = record {
  context = record {
    has_home = own_home (lane_at b.lanes e.lane);
    caller = caller_of (waiter_of b (call_of e.deed));
  };
  waiter = waiter_of b (call_of e.deed);
  depth = depth_of (lane_at b.lanes e.lane);
  level = depth_of (lane_at b.lanes e.lane) + rise (opened_by (own_home (lane_at b.lanes e.lane)) e.deed);
}

-- ---- the row of an entry

-- The entry's line, without its line end.
abbrev pub title_of : (version place : ℕ) → Entry → List ℕ
title_of version n e = deed_line version (decimal n ++ codes " L" ++ decimal e.lane) e.deed

-- The front of its row: its number, its call, its mark, and its line.
unfoldable pub entry_front : (version place : ℕ) → Entry → List ℕ
entry_front version n e = entry_front_text n (call_of e.deed) (mark_of e.deed) (title_of version n e)

-- The entry in words.
unfoldable pub entry_lead : Scenario → (place : ℕ) → Context → Entry → List ℕ
entry_lead s n x e = entry_front s.version n e ++ story s x e ++ row_middle_text

-- Its label, where it has one.
unfoldable pub entry_label : (level : ℕ) → (words : List ℕ) → Entry → List ℕ
entry_label d words e = if has_label e.deed then label_text e.lane d (look e.deed) words else []

-- Its arrow, the mark of the object that it touches, and the boxes of what it closes.
unfoldable pub entry_marks : (place : ℕ) → State → Seen → Entry → List ℕ
entry_marks n b v e =
    pointing_text (points_of e.deed) e.lane v.depth v.waiter b ++ touched_text (touched_by e.deed) b
    ++ closing_boxes (start_of n) e.lane (closed_by e.deed) b

-- All that is drawn of it.
unfoldable pub entry_drawing : Scenario → (place : ℕ) → State → Seen → Entry → List ℕ
entry_drawing s n b v e =
    entry_label v.level (label s v.context e) e ++ entry_marks n b v e ++ row_end_text

-- The row of an entry, before which a section may end and another begin.
unfoldable pub entry_row : Scenario → (place : ℕ) → State → Seen → Entry → List ℕ
entry_row s n b v e = row_begins n b ++ entry_lead s n v.context e ++ entry_drawing s n b v e

-- Each entry up to the limit has a row. Before the first one behind it the section ends.
abbrev pub entry_at : Scenario → (place : ℕ) → State → Seen → Entry → List ℕ
entry_at s n b v e =
    if nat_le n LIMIT then entry_row s n b v e
    else if n == LIMIT + 1 then back_of_section (row_at LIMIT) [] b
    else []

-- What the page has of the next entry, drawn on the picture before it.
unfoldable pub entry_text : Scenario → Picture → Entry → List ℕ
entry_text s p e = entry_at s (p.entries + 1) p.board (seen p.board e) e

-- ---- the picture after it

-- The entry's lane has to be wide enough for its label.
abbrev pub labelled : (level length : ℕ) → Entry → State → State
labelled d n e b =
    if has_label e.deed then with_lanes (with_lane (widened (label_width d n)) e.lane b.lanes) b else b

-- The picture after the next entry: the board with what it opens and closes, its lane wide enough for its label, and
-- one entry more.
unfoldable pub after : Scenario → Picture → Entry → Picture
after s p e = record {
  board =
      labelled (seen p.board e).level (length (label s (seen p.board e).context e)) e
      (changed (start_of (p.entries + 1)) e p.board);
  entries = p.entries + 1;
}

-- The picture after a history.
abbrev pub drawn : Scenario → List Entry → Picture
drawn s [] = first s
drawn s (e ∷ h) = after s (drawn s h) e
