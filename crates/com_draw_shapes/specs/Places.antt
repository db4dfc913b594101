-- The rows of a page, which are counted from 1, and its sections of 40 rows, which are counted from 1. In a
-- section rows are counted from 0.
use Rattle.std.specs.Prelude.{ℕ, ◌+◌, ◌-◌, ◌/◌, ◌%◌, Bool, not, ◌==◌, nat_le, if◌then◌else◌}
use Rattle.com_draw_state.specs.declared.stacks.Start.{Start}
use Rattle.com_draw_words.specs.declared.limits.TheConstants.{LIMIT, ROWS}

-- Where a row of the page stands.
abbrev pub row_at : (row : ℕ) → Start
row_at m = record { section = (m - 1) / ROWS + 1; row = (m - 1) % ROWS }

-- Whether a section begins with it.
abbrev pub opens_section : (row : ℕ) → Bool
opens_section m = (m - 1) % ROWS == 0

-- Where an entry stands. Each up to the limit has the row of its number; those behind stand above the section
-- in which the drawing goes on.
abbrev pub start_of : (place : ℕ) → Start
start_of n = if nat_le n LIMIT then row_at n else record { section = (row_at LIMIT).section; row = 0 }

-- What began in an earlier section is up in this one, and stands in it from the first row on.
abbrev pub top_in : (here start : Start) → ℕ
top_in here at = if at.section == here.section then at.row else 0

abbrev pub is_up : (here start : Start) → Bool
is_up here at = not (at.section == here.section)

-- The next row of the section.
abbrev pub below : Start → Start
below here = record { section = here.section; row = here.row + 1 }
