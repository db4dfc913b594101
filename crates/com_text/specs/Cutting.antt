-- How the tokens of a text cut it.
use Rattle.std.specs.Prelude.{◌≡◌, ℕ, ◌+◌, ◌≤◌, ◌<◌, ◌⊎◌, List, [], ◌∷◌, length, slice_index}
use Rattle.com_text.specs.declared.token.Token.{Token}

-- a space, or a byte 13 directly before a line end
abbrev pub IsBlank : List ℕ → ℕ → Type 0
IsBlank text k =
    (slice_index text k ≡ 32)
    ⊎ ((slice_index text k ≡ 9) ⊎ ((slice_index text k ≡ 13) × (slice_index text (k + 1) ≡ 10)))

-- behind a `;` that stands at a position or after it, in the same line, or that `;` itself
pub record InComment (text : List ℕ) (from k : ℕ) : Type 0 where
  pub mark : ℕ
  pub behind : from ≤ mark
  pub before : mark ≤ k
  pub semicolon : slice_index text mark ≡ 59
  pub same_line : (i : ℕ) → mark ≤ i → i ≤ k → slice_index text i ≡ 10 → ⊥

-- spaces and comments alone
abbrev pub IsGap : List ℕ → ℕ → ℕ → Type 0
IsGap text from to = (k : ℕ) → from ≤ k → k < to → IsBlank text k ⊎ InComment text from k

-- From a position on the tokens are pieces of the text, none of them empty, each behind the one before, and
-- what stands between them and behind the last is spaces and comments.
abbrev pub IsCut : List ℕ → ℕ → List Token → Type 0
IsCut text from [] = IsGap text from (length text)
IsCut text from (t ∷ ts) =
    IsGap text from t.start × (from ≤ t.start) × (t.start < t.end) × (t.end ≤ length text)
    × IsCut text t.end ts
