-- Cutting a text into its lines of words, byte by byte.
use Rattle.std.specs.Prelude.{ℕ, ◌+◌, List, [], ◌∷◌, ◌++◌, Option, Some, None, Bool, true, false, ◌&&◌, ◌||◌}
use Rattle.std.specs.Prelude.{nat_lt, ◌==◌, if◌then◌else◌, slice_index, slice_range, drop, codes}
use Rattle.std.specs.Str.{bytes_eq}
use Rattle.com_text.specs.declared.word.Sort.{Sort}
use Rattle.com_text.specs.declared.word.Sort.TheVariants as sorts
use Rattle.com_text.specs.declared.scan.Class.{Class}
use Rattle.com_text.specs.declared.scan.Class.TheVariants as classes
use Rattle.com_text.specs.declared.scan.Within.{Within}
use Rattle.com_text.specs.declared.scan.Within.TheVariants as within
use Rattle.com_text.specs.declared.scan.Scanner.{Scanner}
use Rattle.com_text.specs.declared.scan.LineEnd.{LineEnd}
use Rattle.com_text.specs.Words.{WordAt, LineAt}

-- A byte with the one behind it. A byte 13 directly before a line end is passed over like a space.
abbrev pub class_of : ℕ → ℕ → Class
class_of b next =
    if b == 10 then classes.LineEnd
    else (if b == 32 || b == 9 || (b == 13 && next == 10) then classes.Blank
    else (if nat_lt b 32 || nat_lt 126 b then classes.Bad
    else (if b == 34 then classes.Quote
    else (if b == 59 then classes.Semicolon
    else classes.Other))))

-- whether a byte ends a line, as byte 10 alone does
abbrev pub ends_line : Class → Bool
ends_line classes.LineEnd = true
ends_line _ = false

-- the position of the next byte, and the word so far
pub record Scanning : Type 0 where
  pub line : ℕ
  pub column : ℕ
  pub at : ℕ
  pub first : ℕ
  pub start : ℕ
  pub stands : Within
  pub stray : Option ℕ
  pub bytes : List ℕ

-- what the program's scanner stands for
abbrev pub seen : List ℕ → ℕ → Scanner → Scanning
seen text at s =
    record {
      line = s.line;
      column = s.column;
      at = at;
      first = s.first;
      start = s.from;
      stands = s.within;
      stray = s.stray;
      bytes = slice_range text s.from at;
    }

-- what a word or a comment becomes by a byte that ends no line
abbrev pub turn : Within → Class → List ℕ → Within
turn within.Nothing classes.Blank bytes = within.Nothing
turn within.Nothing classes.Quote bytes = within.Text
turn within.Nothing classes.Semicolon bytes = within.Remark
turn within.Nothing _ bytes = within.Plain
turn within.Plain classes.Blank bytes = within.Nothing
turn within.Plain classes.Quote bytes = if bytes_eq bytes (codes "x") then within.Bytes else within.Plain
turn within.Plain _ bytes = within.Plain
turn within.Text classes.Quote bytes = within.Nothing
turn within.Text _ bytes = within.Text
turn within.Bytes classes.Quote bytes = within.Nothing
turn within.Bytes _ bytes = within.Bytes
turn within.Remark c bytes = within.Remark

-- the column of the first byte outside the characters
abbrev pub strayed : Option ℕ → Class → ℕ → Option ℕ
strayed (Some k) c column = Some k
strayed None classes.Bad column = Some column
strayed None _ column = None

-- behind a byte, by what stands there then: the word or comment has this byte too, or a next word may begin
abbrev pub moved : Scanning → ℕ → Class → Within → Scanning
moved s b c within.Nothing =
    record {
      line = s.line;
      column = s.column + 1;
      at = s.at + 1;
      first = s.column + 1;
      start = s.at + 1;
      stands = within.Nothing;
      stray = None;
      bytes = [];
    }
moved s b c w =
    record {
      line = s.line;
      column = s.column + 1;
      at = s.at + 1;
      first = s.first;
      start = s.start;
      stands = w;
      stray = strayed s.stray c s.column;
      bytes = s.bytes ++ b ∷ [];
    }

-- behind a byte that ends no line
abbrev pub after : Scanning → ℕ → Class → Scanning
after s b c = moved s b c (turn s.stands c s.bytes)

-- ---- the words that end

-- the sort of a word that ends: its own, but `Stray` where a byte of it is outside the characters, in this column
abbrev pub sorted : Option ℕ → Sort → Sort
sorted None sort = sort
sorted (Some k) sort = sorts.Stray k

-- the word so far, with so many bytes more
abbrev pub word_of : Scanning → Sort → List ℕ → ℕ → WordAt
word_of s sort bytes more =
    record {
      line = s.line;
      column = s.first;
      after = s.column + more;
      start = s.start;
      end = s.at + more;
      sort = sort;
      bytes = bytes;
    }

-- what a comment gives where it ends: no word, but one where its byte in this column is outside the characters
abbrev pub remark : Scanning → Option ℕ → List WordAt
remark s None = []
remark s (Some k) = word_of s (sorts.Remark k) s.bytes 0 ∷ []

-- the word that a line's end closes, by what stands before it; a literal is unclosed there
abbrev pub closed_by : Scanning → Within → List WordAt
closed_by s within.Nothing = []
closed_by s within.Plain = word_of s (sorted s.stray sorts.Plain) s.bytes 0 ∷ []
closed_by s within.Text = word_of s sorts.Unclosed s.bytes 0 ∷ []
closed_by s within.Bytes = word_of s sorts.Unclosed s.bytes 0 ∷ []
closed_by s within.Remark = remark s s.stray

-- at the end of a line or of the text
abbrev pub closing : Scanning → List WordAt
closing s = closed_by s s.stands

abbrev pub literal : Scanning → ℕ → Sort → WordAt
literal s b sort = word_of s (sorted s.stray sort) (s.bytes ++ b ∷ []) 1

-- the word that a byte ends, by what stands before it: a blank ends a plain word, a quotation mark a literal
abbrev pub gave_by : Scanning → ℕ → Within → Class → List WordAt
gave_by s b within.Plain classes.Blank = word_of s (sorted s.stray sorts.Plain) s.bytes 0 ∷ []
gave_by s b within.Text classes.Quote = literal s b sorts.Text ∷ []
gave_by s b within.Bytes classes.Quote = literal s b sorts.Bytes ∷ []
gave_by s b w c = []

-- at a byte that ends no line
abbrev pub gave : Scanning → ℕ → Class → List WordAt
gave s b c = gave_by s b s.stands c

-- ---- lines

-- where a line begins
abbrev pub at_line : ℕ → ℕ → Scanning
at_line line at =
    record {
      line = line;
      column = 1;
      at = at;
      first = 1;
      start = at;
      stands = within.Nothing;
      stray = None;
      bytes = [];
    }

-- a line that ends here, with the words that were given
abbrev pub ended : Scanning → List WordAt → Bool → LineAt
ended s words last =
    record { words = words ++ closing s; line = s.line; column = s.column; at = s.at; last = last }

-- the lines that are left, the first of which has given some words already; each text has one more line than
-- line ends
abbrev pub lines_from : Scanning → List WordAt → List ℕ → List LineAt
lines_from s words [] = ended s words true ∷ []
lines_from s words (b ∷ bs) =
    if ends_line (class_of b (slice_index bs 0))
    then ended s words false ∷ lines_from (at_line (s.line + 1) (s.at + 1)) [] bs
    else lines_from (after s b (class_of b (slice_index bs 0)))
    (words ++ gave s b (class_of b (slice_index bs 0))) bs

-- the lines of a text
unfoldable pub lines_of : List ℕ → List LineAt
lines_of text = lines_from (at_line 1 0) [] text

-- a line that the program read
abbrev pub line_of : List WordAt → ℕ → LineEnd → LineAt
line_of words line end =
    record { words = words; line = line; column = end.column; at = end.at; last = end.last }

-- the lines behind it
abbrev pub more_lines : List ℕ → ℕ → LineEnd → List LineAt
more_lines text line end =
    if end.last then [] else lines_from (at_line (line + 1) (end.at + 1)) [] (drop (end.at + 1) text)
