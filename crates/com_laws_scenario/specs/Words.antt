-- Words as the scanner gives them.
use Rattle.std.specs.Prelude.{◌≡◌, ℕ, ◌≤◌, true, List, [], ◌∷◌, ◌++◌, length, All}
use Rattle.com_text.specs.declared.word.Sort.{Sort}
use Rattle.com_text.specs.declared.word.Sort.TheVariants as sorts
use Rattle.com_text.specs.Words.{WordAt, LineAt}
use Rattle.com_model.specs.Formed.{is_text_byte}

-- characters between two quotation marks
pub record IsQuoted (bytes : List ℕ) : Type 0 where
  pub inner : List ℕ
  pub marks : bytes ≡ 34 ∷ (inner ++ 34 ∷ [])
  pub characters : All (λ c. is_text_byte c ≡ true) inner

abbrev pub IsLiteral : Sort → List ℕ → Type 0
IsLiteral sorts.Text bytes = IsQuoted bytes
IsLiteral _ bytes = Unit {0}

-- a word has a byte, and a text literal has characters alone between its marks
pub record IsWord (w : WordAt) : Type 0 where
  pub some : 1 ≤ length w.bytes
  pub literal : IsLiteral w.sort w.bytes

-- each word of a line has a byte, and each text literal characters alone between its marks
abbrev pub IsLine : LineAt → Type 0
IsLine l = All IsWord l.words
