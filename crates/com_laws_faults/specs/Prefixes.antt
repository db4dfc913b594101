-- Texts that go on from a text, and the faults which say only that it ends too early.
use Rattle.std.specs.Prelude.{◌≡◌, ℕ, ◌+◌, ◌<◌, ◌⊎◌, List, [], ◌∷◌, None, Bool, true, false, ◌&&◌, if◌then◌else◌, slice_index, codes}
use Rattle.std.specs.Str.{bytes_eq}
use Rattle.com_text.specs.declared.scan.Class.{Class}
use Rattle.com_text.specs.declared.scan.Class.TheVariants as classes
use Rattle.com_text.specs.declared.scan.Within.TheVariants as within
use Rattle.com_text.specs.Words.{WordAt, LineAt, is_over}
use Rattle.com_text.specs.Scanning.{Scanning, class_of, ends_line, after, closing, at_line, lines_of}
use Rattle.com_read_operands.specs.declared.faults.Fault.{Fault}
use Rattle.com_read_operands.specs.declared.faults.TheConstants.Fault.{MISSING, UNENDED}
use Rattle.com_read_lines.specs.Codes.{first_position}

-- Where the reader stands behind some bytes more.
abbrev pub behind : Scanning → List ℕ → Scanning
behind s [] = s
behind s (b ∷ bs) =
    if ends_line (class_of b (slice_index bs 0)) then behind (at_line (s.line + 1) (s.at + 1)) bs
    else behind (after s b (class_of b (slice_index bs 0))) bs

-- Where it stands at a text's end.
abbrev pub end_of : List ℕ → Scanning
end_of text = behind (at_line 1 0) text

-- A text ends between words: behind a space, a line's end or the closing mark of a literal, or within a comment
-- in which all bytes are characters.
abbrev pub EndsBetween : List ℕ → Type 0
EndsBetween text = closing (end_of text) ≡ []

abbrev pub ends_word : Class → Bool
ends_word classes.Blank = true
ends_word classes.LineEnd = true
ends_word _ = false

-- a space, a line's end or the text's end stands first
abbrev pub begins_apart : List ℕ → Bool
begins_apart [] = true
begins_apart (b ∷ bs) = ends_word (class_of b (slice_index bs 0))

-- The text ends behind a character of a word that is no literal, and the word ends there: what follows begins with
-- a space or a line's end, or is nothing.
pub record EndsAtWord (text rest : List ℕ) : Type 0 where
  pub plain : (end_of text).stands ≡ within.Plain
  pub characters : (end_of text).stray ≡ None
  pub apart : begins_apart rest ≡ true

-- Where a text goes on from another, no word is cut.
abbrev pub CutsNoWord : List ℕ → List ℕ → Type 0
CutsNoWord text rest = EndsBetween text ⊎ EndsAtWord text rest

-- ---- what more text may mend

-- A word is missing in the last line, which may go on.
pub record IsMissing (text : List ℕ) (f : Fault) : Type 0 where
  pub number : f.number ≡ MISSING
  pub within_line : 1 < (end_of text).column

-- The text ends inside of a section.
abbrev pub IsUnended : List ℕ → Fault → Type 0
IsUnended text f = f ≡ record { number = UNENDED; line = (end_of text).line; column = (end_of text).column }

-- the word `scenario` alone
abbrev pub is_lone : List WordAt → Bool
is_lone [] = false
is_lone (w ∷ []) = bytes_eq w.bytes (codes "scenario")
is_lone (w ∷ v ∷ ws) = false

-- No line has a word, but that the last one may have the word `scenario`.
abbrev pub lacks_header : List LineAt → Bool
lacks_header [] = true
lacks_header (l ∷ ls) = if is_over l.words then lacks_header ls else (l.last && is_lone l.words)

-- The text ends before its header is whole.
pub record IsHeadless (text : List ℕ) (f : Fault) : Type 0 where
  pub first : f ≡ first_position
  pub lacks : lacks_header (lines_of text) ≡ true

-- The faults which say that the text ends too early: a word is missing at its end, a section is open there, or
-- the header has not come. Every other fault stays, whatever follows.
abbrev pub EndsEarly : List ℕ → Fault → Type 0
EndsEarly text f = IsMissing text f ⊎ (IsUnended text f ⊎ IsHeadless text f)
