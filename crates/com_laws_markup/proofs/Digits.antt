-- The digits of a number.
use Rattle.std.proofs.Common.{ℕ, zero, suc, ◌<◌, ◌≤◌, ◌==◌, List, [], ◌∷◌, true, false, if◌then◌else◌, arith}
use Rattle.std.specs.Prelude.{◌/◌, ◌%◌, decimal}
use Rattle.std.specs.Fmt.{digits, digits_onto, digit_glyph}

-- a digit
pub record IsDigit (x : ℕ) : Type 0 where
  pub low : 48 ≤ x
  pub high : x ≤ 57

-- each is a digit
pub data Digits : List ℕ → Type 0 where
  none : Digits []
  more : {x : ℕ} {t : List ℕ} → IsDigit x → Digits t → Digits (x ∷ t)

glyph : (d : ℕ) → d < 10 → IsDigit (digit_glyph false d)
glyph d h = record { low = grind arith; high = grind arith }

last_glyph : (n : ℕ) → IsDigit (digit_glyph false (n % 10))
last_glyph n = glyph (n % 10) (omega arith)

digits_behind : (k n : ℕ) (acc : List ℕ) → Digits acc → Digits (digits_onto k 10 false n acc)
digits_behind zero n acc h = h
digits_behind (suc k) n acc h =
    elim (n / 10 == 0) as (λ c. Digits (if c then digit_glyph false (n % 10) ∷ acc else digits_onto k 10 false (n / 10) (digit_glyph false (n % 10) ∷ acc))) [
      | true ↦ more (last_glyph n) h
      | false ↦ digits_behind k (n / 10) (digit_glyph false (n % 10) ∷ acc) (more (last_glyph n) h)
    ]

-- a number's digits
pub decimal_digits : (n : ℕ) → Digits (decimal n)
unfolding digits
decimal_digits n = digits_behind 64 n [] none
