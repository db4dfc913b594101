-- Words as they are written.
use Rattle.std.specs.Prelude.{◌≡◌, ℕ, ◌≤◌, ◌%◌, List, [], ◌∷◌, ◌++◌, Bool, true, false, not, ◌&&◌, ◌||◌, ◌==◌}
use Rattle.std.specs.Prelude.{nat_le, length, map}
use Rattle.std.specs.List.{list_all}
use Rattle.std.specs.Char.{is_ascii_hexdigit}
use Rattle.com_text.specs.declared.word.Sort.{Sort}
use Rattle.com_text.specs.declared.word.Sort.TheVariants as sorts
use Rattle.com_text.specs.Words.{WordAt, LineAt}

-- a word as it is written: its sort, and its bytes with a literal's marks among them
pub record Spelled : Type 0 where
  pub sort : Sort
  pub bytes : List ℕ

-- a word of these bytes that is no literal
abbrev pub plain : List ℕ → Spelled
plain bytes = record { sort = sorts.Plain; bytes = bytes }

-- a word that was read, without its position
abbrev pub spelled_of : WordAt → Spelled
spelled_of w = record { sort = w.sort; bytes = w.bytes }

-- ---- good words

-- 33 to 126 without the quotation mark and the semicolon
abbrev pub is_word_byte : ℕ → Bool
is_word_byte b = nat_le 33 b && nat_le b 126 && not (b == 34) && not (b == 59)

-- byte 9 and 32 to 126 without the quotation mark
abbrev pub is_text_byte : ℕ → Bool
is_text_byte b = b == 9 || (nat_le 32 b && nat_le b 126 && not (b == 34))

-- a word that is no literal
abbrev pub IsPlainWord : List ℕ → Type 0
IsPlainWord bytes = (1 ≤ length bytes) × (list_all is_word_byte bytes ≡ true)

abbrev pub text_word : List ℕ → Spelled
text_word inner = record { sort = sorts.Text; bytes = 34 ∷ (inner ++ 34 ∷ []) }

abbrev pub bytes_word : List ℕ → Spelled
bytes_word digits = record { sort = sorts.Bytes; bytes = 120 ∷ 34 ∷ (digits ++ 34 ∷ []) }

-- a text literal has its bytes between quotation marks
abbrev pub IsTextWord : List ℕ → Type 0
IsTextWord bytes = (inner : List ℕ) × (bytes ≡ 34 ∷ (inner ++ 34 ∷ [])) × (list_all is_text_byte inner ≡ true)

-- a bytes literal has pairs of hexadecimal digits between x" and a quotation mark
abbrev pub IsBytesWord : List ℕ → Type 0
IsBytesWord bytes =
    (digits : List ℕ) × (bytes ≡ 120 ∷ 34 ∷ (digits ++ 34 ∷ [])) × (list_all is_ascii_hexdigit digits ≡ true)
    × (length digits % 2 ≡ 0)

abbrev pub IsSpelledAs : Sort → List ℕ → Type 0
IsSpelledAs sorts.Plain bytes = IsPlainWord bytes
IsSpelledAs sorts.Text bytes = IsTextWord bytes
IsSpelledAs sorts.Bytes bytes = IsBytesWord bytes
IsSpelledAs _ bytes = ⊥

-- a good word: the scanner reads it as it is written
abbrev pub IsSpelled : Spelled → Type 0
IsSpelled w = IsSpelledAs w.sort w.bytes

-- each of these is a good word
abbrev pub AreSpelled : List Spelled → Type 0
AreSpelled [] = Unit {0}
AreSpelled (w ∷ ws) = IsSpelled w × AreSpelled ws

-- each line has good words
abbrev pub AreLines : List (List Spelled) → Type 0
AreLines [] = Unit {0}
AreLines (l ∷ ls) = AreSpelled l × AreLines ls

-- ---- their text

-- words that follow others: each behind a space
abbrev pub more_text : List Spelled → List ℕ
more_text [] = []
more_text (w ∷ ws) = 32 ∷ (w.bytes ++ more_text ws)

-- words joined by spaces
abbrev pub words_text : List Spelled → List ℕ
words_text [] = []
words_text (w ∷ ws) = w.bytes ++ more_text ws

-- a line: its words joined by spaces, and the line feed that ends it
abbrev pub line_text : List Spelled → List ℕ
line_text ws = words_text ws ++ 10 ∷ []

-- lines, each with the line feed that ends it
abbrev pub text_of : List (List Spelled) → List ℕ
text_of [] = []
text_of (l ∷ ls) = line_text l ++ text_of ls

-- ---- what the scanner reads

-- a line that was read, without the positions of its words
abbrev pub shown : LineAt → List Spelled
shown l = map spelled_of l.words

-- Lines that were read have these words, and an empty line behind them ends the text.
abbrev pub Shown : List (List Spelled) → List LineAt → Type 0
Shown [] [] = ⊥
Shown [] (x ∷ xs) = (x.last ≡ true) × (shown x ≡ []) × (xs ≡ [])
Shown (l ∷ ls) [] = ⊥
Shown (l ∷ ls) (x ∷ xs) = (x.last ≡ false) × (shown x ≡ l) × Shown ls xs
