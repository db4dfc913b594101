-- The lines of a text, and the words of a line.
use Rattle.std.specs.Prelude.{◌≡◌, ℕ, ◌+◌, Bool, true, false, ◌&&◌, ◌==◌, List, [], ◌∷◌, ◌++◌, Option, Some, None}
use Rattle.std.specs.Prelude.{if◌then◌else◌}
use Rattle.com_text.specs.declared.word.Sort.{Sort}
use Rattle.com_text.specs.declared.word.Sort.TheVariants as sorts
use Rattle.com_text.specs.declared.scan.Class.{Class}
use Rattle.com_text.specs.declared.scan.Class.TheVariants as classes
use Rattle.com_text.specs.Words.{WordAt, LineAt}
use Rattle.com_text.specs.Scanning.{class_of, sorted}
use Rattle.com_text.specs.Tokens.{is_bad}

-- ---- bytes by their class

-- The first byte of a list, or else the one that follows it.
abbrev pub first_of : List ℕ → ℕ → ℕ
first_of [] next = next
first_of (b ∷ bs) next = b

-- Each byte of a list, behind which a byte follows, is of a class of these.
abbrev pub Each : (Class → Bool) → List ℕ → ℕ → Type 0
Each test [] next = Unit {0}
Each test (b ∷ bs) next = (test (class_of b (first_of bs next)) ≡ true) × Each test bs next

abbrev pub is_blank : Class → Bool
is_blank classes.Blank = true
is_blank _ = false

-- what goes on with a word that is no literal
abbrev pub in_word : Class → Bool
in_word classes.Blank = false
in_word classes.LineEnd = false
in_word _ = true

-- what begins one
abbrev pub opens_word : Class → Bool
opens_word classes.Other = true
opens_word classes.Bad = true
opens_word _ = false

-- what stands between the marks of a literal
abbrev pub in_literal : Class → Bool
in_literal classes.Quote = false
in_literal classes.LineEnd = false
in_literal _ = true

abbrev pub in_line : Class → Bool
in_line classes.LineEnd = false
in_line _ = true

-- the column, or the index, behind some bytes
abbrev pub ahead : ℕ → List ℕ → ℕ
ahead from [] = from
ahead from (b ∷ bs) = ahead (from + 1) bs

-- the column of the first byte outside the characters, of bytes that begin in a column
abbrev pub stray_in : ℕ → List ℕ → ℕ → Option ℕ
stray_in column [] next = None
stray_in column (b ∷ bs) next =
    if is_bad (class_of b (first_of bs next)) then Some column else stray_in (column + 1) bs next

-- ---- the words of a line

-- A word of a line whose first byte stands in a column, and at an index of the text.
abbrev pub word_in : ℕ → ℕ → ℕ → Sort → List ℕ → WordAt
word_in line column at sort bytes = record {
  line = line;
  column = column;
  after = ahead column bytes;
  start = at;
  end = ahead at bytes;
  sort = sort;
  bytes = bytes;
}

-- the marks that begin a literal of bytes
abbrev pub opens_bytes : List ℕ → Bool
opens_bytes [] = false
opens_bytes (a ∷ []) = false
opens_bytes (a ∷ b ∷ bs) = (a == 120) && (b == 34)

-- the line ends, or a space follows
abbrev pub ends_apart : List ℕ → ℕ → Bool
ends_apart [] next = true
ends_apart (b ∷ bs) next = is_blank (class_of b (first_of bs next))

-- The bytes of a word, in front of more of its line, and the byte behind the line: a word that is no literal, up
-- to a space; a text or bytes between their marks; a literal that is not closed, or a comment in which a byte is
-- no character, up to the line's end.
pub data IsWord (line column at : ℕ) (bytes more : List ℕ) (next : ℕ) (w : WordAt) : Type 0 where
  plain_word : (b : ℕ) (bs : List ℕ) → bytes ≡ b ∷ bs → opens_word (class_of b (first_of (bs ++ more) next)) ≡ true
      → Each in_word bs (first_of more next) → opens_bytes (b ∷ bs) ≡ false → ends_apart more next ≡ true
      → w ≡ word_in line column at (sorted (stray_in column bytes (first_of more next)) sorts.Plain) bytes
      → IsWord line column at bytes more next w
  text_word : (inner : List ℕ) → bytes ≡ 34 ∷ (inner ++ 34 ∷ []) → Each in_literal inner 34
      → w ≡ word_in line column at (sorted (stray_in column bytes (first_of more next)) sorts.Text) bytes
      → IsWord line column at bytes more next w
  bytes_word : (inner : List ℕ) → bytes ≡ 120 ∷ 34 ∷ (inner ++ 34 ∷ []) → Each in_literal inner 34
      → w ≡ word_in line column at (sorted (stray_in column bytes (first_of more next)) sorts.Bytes) bytes
      → IsWord line column at bytes more next w
  open_text : (inner : List ℕ) → bytes ≡ 34 ∷ inner → Each in_literal inner next → more ≡ []
      → w ≡ word_in line column at sorts.Unclosed bytes → IsWord line column at bytes more next w
  open_bytes : (inner : List ℕ) → bytes ≡ 120 ∷ 34 ∷ inner → Each in_literal inner next → more ≡ []
      → w ≡ word_in line column at sorts.Unclosed bytes → IsWord line column at bytes more next w
  comment : (inner : List ℕ) (stray : ℕ) → bytes ≡ 59 ∷ inner → Each in_line inner next → more ≡ []
      → stray_in column bytes next ≡ Some stray
      → w ≡ word_in line column at (sorts.Remark stray) bytes → IsWord line column at bytes more next w

-- nothing, or a comment of characters
abbrev pub IsQuiet : ℕ → List ℕ → ℕ → Type 0
IsQuiet column [] next = Unit {0}
IsQuiet column (b ∷ bs) next = (b ≡ 59) × Each in_line bs next × (stray_in column (b ∷ bs) next ≡ None)

-- What is left of a line, from a column and an index on, is these words, with spaces between them, and perhaps
-- a comment behind.
abbrev pub IsLine : ℕ → ℕ → ℕ → List ℕ → ℕ → List WordAt → Type 0
IsLine line column at rest next [] =
    (gap : List ℕ) × (more : List ℕ) × (rest ≡ gap ++ more) × Each is_blank gap (first_of more next)
    × IsQuiet (ahead column gap) more next
IsLine line column at rest next (w ∷ ws) =
    (gap : List ℕ) × (more : List ℕ) × (rest ≡ gap ++ (w.bytes ++ more))
    × Each is_blank gap (first_of (w.bytes ++ more) next)
    × IsWord line (ahead column gap) (ahead at gap) w.bytes more next w
    × IsLine line (ahead (ahead column gap) w.bytes) (ahead (ahead at gap) w.bytes) more next ws

-- ---- the lines of a text

-- a line of these bytes, and its end
abbrev pub line_in : ℕ → ℕ → List ℕ → List WordAt → Bool → LineAt
line_in line at bs words last =
    record { words = words; line = line; column = ahead 1 bs; at = ahead at bs; last = last }

-- As many lines, numbered from a number on, the first of which begins at an index: a byte 10 stands behind each
-- but the last.
abbrev pub AreLines : ℕ → ℕ → List (List ℕ) → List LineAt → Type 0
AreLines line at [] ls = ⊥
AreLines line at (bs ∷ []) ls =
    (words : List WordAt) × (ls ≡ line_in line at bs words true ∷ []) × Each in_line bs 0
    × IsLine line 1 at bs 0 words
AreLines line at (bs ∷ cs ∷ more) ls =
    (words : List WordAt) × (others : List LineAt) × (ls ≡ line_in line at bs words false ∷ others)
    × Each in_line bs 10 × IsLine line 1 at bs 10 words
    × AreLines (line + 1) (ahead at bs + 1) (cs ∷ more) others
