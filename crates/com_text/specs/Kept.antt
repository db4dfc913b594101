-- What the scanner knows of the word so far, and the words that it keeps.
use Rattle.std.specs.Prelude.{◌≡◌, ◌≤◌, ℕ, ◌+◌, ◌-◌, List, Option, Some, None, slice_index, slice_range}
use Rattle.com_text.specs.declared.word.Kind.{Kind}
use Rattle.com_text.specs.declared.word.Kind.TheVariants as kinds
use Rattle.com_text.specs.declared.scan.Scanner.{Scanner}
use Rattle.com_text.specs.Words.{WordAt}
use Rattle.com_text.specs.Tokens.{stray_from}
use Rattle.com_text.specs.Sorts.{sort_of}

-- The word so far begins at its column, and its first byte outside the characters is the first one of its
-- bytes alone, but that a byte 13 directly before a line end is none.
pub record IsKept (text : List ℕ) (at : ℕ) (s : Scanner) : Type 0 where
  pub from : s.from ≤ at
  pub column : s.first + (at - s.from) ≡ s.column
  pub stray : (k : ℕ) → s.stray ≡ Some k → stray_from s.first (slice_range text s.from at) ≡ Some k
  pub exact : (slice_index text at ≡ 10 → ⊥) → stray_from s.first (slice_range text s.from at) ≡ s.stray

-- a word's kind, by whether it has a byte outside the characters
abbrev pub kind_of : Option ℕ → Kind → Kind
kind_of None kind = kind
kind_of (Some k) kind = kinds.Stray

-- the word of a kind from where the scanner's began up to an index
abbrev pub word_to : List ℕ → Scanner → ℕ → Kind → WordAt
word_to text s end kind = record {
  line = s.line;
  column = s.first;
  after = s.first + (end - s.from);
  start = s.from;
  end = end;
  sort = sort_of kind s.first (slice_range text s.from end);
  bytes = slice_range text s.from end;
}
