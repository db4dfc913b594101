-- What the scanner takes at one time between words: spaces, and a word that is no literal.
use Rattle.std.specs.Prelude.{◌≡◌, ℕ, ◌+◌, ◌-◌, ◌<◌, ◌≤◌, List, [], ◌∷◌, ◌++◌, None, Bool, true, false, ◌&&◌, nat_lt, nat_le, ◌==◌, ◌||◌, not, length, drop, slice_index, slice_range}
use Rattle.com_text.specs.declared.word.Sort.TheVariants as sorts
use Rattle.com_text.specs.declared.scan.Class.{Class}
use Rattle.com_text.specs.declared.scan.Class.TheVariants as classes
use Rattle.com_text.specs.declared.scan.Within.TheVariants as within
use Rattle.com_text.specs.declared.scan.Scanner.{Scanner}
use Rattle.com_text.specs.declared.line.Piece.{Piece}
use Rattle.com_text.specs.declared.line.Piece.TheVariants as pieces
use Rattle.com_text.specs.Words.{WordAt}
use Rattle.com_text.specs.Scanning.{Scanning, class_of, lines_from, line_of, more_lines}

-- a character that is no space
abbrev pub is_graphic : ℕ → Bool
is_graphic b = nat_lt 32 b && nat_lt b 127

-- a character of a line
abbrev pub is_character : ℕ → Bool
is_character b = (nat_lt 31 b && nat_lt b 127) || b == 9

-- A byte that begins a word which cannot become a literal. A bytes literal begins with 120.
abbrev pub begins_plain : ℕ → Bool
begins_plain b = is_graphic b && not (b == 34) && not (b == 59) && not (b == 120)

-- a class that ends a word which is no literal
abbrev pub ends_plain : Class → Bool
ends_plain classes.LineEnd = true
ends_plain classes.Blank = true
ends_plain _ = false

-- whether a word that is no literal ends at an index
abbrev pub is_end : List ℕ → ℕ → Bool
is_end text at = nat_le (length text) at || ends_plain (class_of (slice_index text at) (slice_index text (at + 1)))

-- between words, at a column and an index
abbrev pub between : (line column at : ℕ) → Scanning
between line column at =
    record {
      line = line;
      column = column;
      at = at;
      first = column;
      start = at;
      stands = within.Nothing;
      stray = None;
      bytes = [];
    }

-- a scanner whose next word begins at an index, its next byte
abbrev pub IsFresh : ℕ → Scanner → Type 0
IsFresh at s = (s.from ≡ at) × (s.first ≡ s.column) × (s.stray ≡ None)

-- in a word that began at a column and an index and has no byte outside the characters
abbrev pub in_plain : List ℕ → (line column from at : ℕ) → Scanning
in_plain text line column from at =
    record {
      line = line;
      column = column + (at - from);
      at = at;
      first = column;
      start = from;
      stands = within.Plain;
      stray = None;
      bytes = slice_range text from at;
    }

-- in a comment that began at a column and an index and has no byte outside the characters
abbrev pub in_remark : List ℕ → (line column from at : ℕ) → Scanning
in_remark text line column from at =
    record {
      line = line;
      column = column + (at - from);
      at = at;
      first = column;
      start = from;
      stands = within.Remark;
      stray = None;
      bytes = slice_range text from at;
    }

-- the word from an index up to another
abbrev pub plain_word : List ℕ → (line column from to : ℕ) → WordAt
plain_word text line column from to =
    record {
      line = line;
      column = column;
      after = column + (to - from);
      start = from;
      end = to;
      sort = sorts.Plain;
      bytes = slice_range text from to;
    }

-- No word stands from an index between words up to another.
abbrev pub Skips : List ℕ → (from to : ℕ) → Type 0
Skips text from to = (line column : ℕ) (words : List WordAt)
    → lines_from (between line column from) words (drop from text)
    ≡ lines_from (between line (column + (to - from)) to) words (drop to text)

-- A word that is no literal and began before an index goes on up to another.
abbrev pub GoesOn : List ℕ → (at to : ℕ) → Type 0
GoesOn text at to = (line column from : ℕ) (words : List WordAt) → from < at → begins_plain (slice_index text from) ≡ true
    → lines_from (in_plain text line column from at) words (drop at text)
    ≡ lines_from (in_plain text line column from to) words (drop to text)

-- A comment that began before an index goes on up to another.
abbrev pub StaysIn : List ℕ → (at to : ℕ) → Type 0
StaysIn text at to = (line column from : ℕ) (words : List WordAt) → from < at
    → lines_from (in_remark text line column from at) words (drop at text)
    ≡ lines_from (in_remark text line column from to) words (drop to text)

-- One word that is no literal stands from an index between words up to another.
abbrev pub Takes : List ℕ → (from to : ℕ) → Type 0
Takes text from to = (line column : ℕ) (words : List WordAt)
    → lines_from (between line column from) words (drop from text)
    ≡ lines_from (between line (column + (to - from)) to) (words ++ plain_word text line column from to ∷ []) (drop to text)

-- What a piece of a line that begins at an index makes of the words so far: the line goes on behind it, or ends.
abbrev pub Goes : List ℕ → (line at from : ℕ) → (old new : List WordAt) → Piece → Type 0
Goes text line at from old new (pieces.Next to) =
    (from < to) × (to ≤ length text)
    × (lines_from (between line ((from + 1) - at) from) old (drop from text)
    ≡ lines_from (between line ((to + 1) - at) to) new (drop to text))
Goes text line at from old new (pieces.End end) =
    (from ≤ end.at) × (end.at ≤ length text) × (end.last ≡ false → end.at < length text)
    × (lines_from (between line ((from + 1) - at) from) old (drop from text)
    ≡ line_of new line end ∷ more_lines text line end)
