-- The rows of entries in a page, and the line that counts the entries without one.
use Rattle.std.specs.Prelude.{◌≡◌, ℕ, ◌+◌, ◌-◌, min, ◌==◌, nat_le, if◌then◌else◌}
use Rattle.std.specs.Prelude.{List, [], ◌∷◌, ◌++◌, length, map, reverse, take}
use Rattle.com_model.specs.declared.deeds.Entry.{Entry}
use Rattle.com_model.specs.declared.scenario.Scenario.{Scenario}
use Rattle.com_model.specs.Lists.{one_to}
use Rattle.com_draw_state.specs.Board.{State}
use Rattle.com_draw_words.specs.declared.limits.TheConstants.{LIMIT}
use Rattle.com_draw_words.specs.Rows.{entry_front_text, gap_text, row_middle_text}
use Rattle.com_draw_labels.specs.Looks.{call_of, mark_of}
use Rattle.com_draw_stories.specs.Calls.{story}
use Rattle.com_draw_shapes.specs.Places.{row_at}
use Rattle.com_draw_shapes.specs.Sections.{back_of_section, front_of_section, row_begins}
use Rattle.com_draw.specs.declared.beside.Beside.{Beside}
use Rattle.com_draw.specs.Ends.{footer_text, last_back, rows_of}
use Rattle.com_draw.specs.Entries.{drawn, entry_drawing, seen, title_of}
use Rattle.com_draw.specs.Fronts.{front}
use Rattle.com_draw.specs.Pictures.{Picture}
use Rattle.com_draw.specs.Reasons.{all_labelled, cycle_in, reason_rows, waits_in}

-- The row of an entry.
pub record Row : Type 0 where
  -- the number by which the row is found
  pub number : ℕ
  pub entry : Entry
  -- the picture before it
  pub before : Picture

-- Of a history, which is given with its newest entry first, the rows of its first entries, by their order.
abbrev pub rows_within : (limit : ℕ) → Scenario → List Entry → List Row
rows_within limit s [] = []
rows_within limit s (e ∷ h) =
    rows_within limit s h
    ++ (if nat_le (length h + 1) limit
    then record { number = length h + 1; entry = e; before = drawn s h } ∷ []
    else [])

abbrev pub rows : Scenario → List Entry → List Row
rows s h = rows_within LIMIT s h

-- ---- the bytes of rows

-- What stands in a row behind its front: the entry in words, and what is drawn of it.
abbrev pub row_rest : Scenario → Row → List ℕ
row_rest s r =
    story s (seen r.before.board r.entry).context r.entry
    ++ (row_middle_text ++ entry_drawing s r.number r.before.board (seen r.before.board r.entry) r.entry)

-- A row: what ends and begins above it, and its element, with its number as `data-entry` and the entry's line
-- as its title.
abbrev pub row_text : Scenario → Row → List ℕ
row_text s r =
    row_begins r.number r.before.board
    ++ (entry_front_text r.number (call_of r.entry.deed) (mark_of r.entry.deed)
    (title_of s.version r.number r.entry)
    ++ row_rest s r)

abbrev pub rows_text : Scenario → List Row → List ℕ
rows_text s [] = []
rows_text s (r ∷ rs) = row_text s r ++ rows_text s rs

-- The end of the section before the first entry without a row.
abbrev pub end_of_rows : (limit : ℕ) → Scenario → List Entry → List ℕ
end_of_rows limit s [] = []
end_of_rows limit s (e ∷ h) =
    if length h == limit then back_of_section (row_at limit) [] (drawn s h).board else end_of_rows limit s h

-- ---- what holds of them

-- These rows are those of the history's entries up to the limit, each once and in order, and the text is made
-- of them.
pub record HasEntries (s : Scenario) (h : List Entry) (rs : List Row) (text : List ℕ) : Type 0 where
  pub numbers : map (λ (r : Row). r.number) rs ≡ one_to (min (length h) LIMIT)
  pub entries : map (λ (r : Row). r.entry) rs ≡ take LIMIT (reverse h)
  pub bytes : text ≡ front s ++ (rows_text s rs ++ end_of_rows LIMIT s h)

-- Where there are more entries than rows, the line that says how many more.
abbrev pub count_line : (entries : ℕ) → State → List ℕ
count_line n b = if nat_le n LIMIT then [] else front_of_section b ++ gap_text (n - LIMIT)

-- What stands behind that line: why lanes wait, the last section's end, and what the whole was.
abbrev pub after_line : Scenario → List Entry → Beside → List ℕ
after_line s h x =
    (reason_rows (rows_of (length h) + 1) (cycle_in x.waits) (drawn s h).board (waits_in x.waits)
    ++ last_back (rows_of (length h) + length (waits_in x.waits)) (cycle_in x.waits) (drawn s h).board)
    ++ footer_text (length h) (all_labelled (waits_in x.waits) (drawn s h).board) x

-- The rows and the entries that the line counts are together all entries, and the line stands in the text
-- directly behind the text of the entries.
pub record IsCounted (s : Scenario) (h : List Entry) (x : Beside) (rs : List Row) (entries text : List ℕ)
    : Type 0 where
  pub all : length rs + (length h - LIMIT) ≡ length h
  pub line : text ≡ entries ++ (count_line (length h) (drawn s h).board ++ after_line s h x)
