-- The tokens of a text, and its first byte outside the characters.
use Rattle.std.specs.Prelude.{◌≡◌, ℕ, ◌+◌, List, [], ◌∷◌, ◌++◌, Option, Some, None, Bool, true, false}
use Rattle.std.specs.Prelude.{if◌then◌else◌, slice_index, map}
use Rattle.com_text.specs.declared.word.Sort.{Sort}
use Rattle.com_text.specs.declared.word.Sort.TheVariants as sorts
use Rattle.com_text.specs.declared.scan.Class.{Class}
use Rattle.com_text.specs.declared.scan.Class.TheVariants as classes
use Rattle.com_text.specs.declared.token.Token.{Token}
use Rattle.com_text.specs.declared.token.TokenSort.{TokenSort}
use Rattle.com_text.specs.declared.token.TokenSort.TheVariants as kinds
use Rattle.com_text.specs.declared.token.TextError.{TextError}
use Rattle.com_text.specs.declared.token.TextError.TheVariants as errors
use Rattle.com_text.specs.Words.{WordAt, LineAt}
use Rattle.com_text.specs.Scanning.{class_of}

-- whether the byte is outside the characters
abbrev pub is_bad : Class → Bool
is_bad classes.Bad = true
is_bad _ = false

-- the index of the first byte outside the characters, from an index on
abbrev pub stray_from : ℕ → List ℕ → Option ℕ
stray_from k [] = None
stray_from k (b ∷ bs) = if is_bad (class_of b (slice_index bs 0)) then Some k else stray_from (k + 1) bs

-- the index of a text's first byte outside the characters
abbrev pub first_stray : List ℕ → Option ℕ
first_stray text = stray_from 0 text

abbrev pub token_sort : Sort → TokenSort
token_sort sorts.Text = kinds.Text
token_sort sorts.Bytes = kinds.Bytes
token_sort sorts.Unclosed = kinds.Unclosed
token_sort _ = kinds.Word

abbrev pub token_of : WordAt → Token
token_of w = record { start = w.start; end = w.end; sort = token_sort w.sort }

abbrev pub end_token : ℕ → Token
end_token at = record { start = at; end = at + 1; sort = kinds.LineEnd }

-- a line's tokens, its end among them where the text goes on
abbrev pub line_tokens : LineAt → List Token
line_tokens l = map token_of l.words ++ (if l.last then [] else end_token l.at ∷ [])

abbrev pub tokens_of : List LineAt → List Token
tokens_of [] = []
tokens_of (l ∷ ls) = line_tokens l ++ tokens_of ls

-- why a text has no tokens
abbrev pub Refuses : List ℕ → TextError → Type 0
Refuses text (errors.Character at) = first_stray text ≡ Some at
Refuses text errors.Memory = Unit {0}
