-- The words of a text.
use Rattle.std.specs.Prelude.{ℕ, List, [], ◌∷◌, Bool, true, false}
use Rattle.com_text.specs.declared.word.Sort.{Sort}
use Rattle.com_text.specs.declared.word.Sort.TheVariants as sorts

-- a word, and where it stands
pub record WordAt : Type 0 where
  pub line : ℕ
  pub column : ℕ
  pub after : ℕ
  pub start : ℕ
  pub end : ℕ
  pub sort : Sort
  pub bytes : List ℕ

-- a comment is no word, and it ends its line
abbrev pub is_remark : Sort → Bool
is_remark (sorts.Remark column) = true
is_remark other = false

-- no word is left
abbrev pub is_over : List WordAt → Bool
is_over [] = true
is_over (w ∷ ws) = is_remark w.sort

-- a line's words, its number, the column behind its last byte, the index of its end, and whether the text
-- ends there
pub record LineAt : Type 0 where
  pub words : List WordAt
  pub line : ℕ
  pub column : ℕ
  pub at : ℕ
  pub last : Bool
