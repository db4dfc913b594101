-- Numbers in decimal digits.
use Rattle.std.specs.Prelude.{ℕ, ◌+◌, ◌-◌, ◌*◌, ◌^◌, List, [], ◌∷◌, Option, Some, None, Bool, ◌&&◌, nat_lt, nat_le}
use Rattle.std.specs.Prelude.{◌==◌, if◌then◌else◌, option_and_then, ℤ, pos, negsuc}
use Rattle.com_read_operands.specs.declared.numbers.TheConstants.{HALF}

-- 48 to 57
abbrev pub is_digit : ℕ → Bool
is_digit b = nat_le 48 b && nat_le b 57

-- The number that decimal digits spell, behind what was read. A number above the greatest of 64 bits is none.
abbrev pub digits_on : ℕ → List ℕ → Option ℕ
digits_on n [] = Some n
digits_on n (b ∷ bs) =
    if is_digit b then (if nat_lt (2 ^ 64 - 1) (10 * n + (b - 48)) then None
    else digits_on (10 * n + (b - 48)) bs) else None

-- the number that one digit or more spell
unfoldable pub number_of : List ℕ → Option ℕ
number_of [] = None
number_of (b ∷ bs) = digits_on 0 (b ∷ bs)

-- the number behind a `-`, which is at most 2^63; `-0` is 0
abbrev pub negative : ℕ → Option ℤ
negative n =
    if n == 0 then Some (pos 0) else (if nat_lt HALF n then None else Some (negsuc (n - 1)))

-- the number without a `-`, which is below 2^63
abbrev pub positive : ℕ → Option ℤ
positive n = if nat_lt n HALF then Some (pos n) else None

-- the whole number of 64 bits that digits spell, with a `-` before them or not
unfoldable pub signed_of : List ℕ → Option ℤ
signed_of [] = option_and_then positive (number_of [])
signed_of (b ∷ bs) =
    if b == 45 then option_and_then negative (number_of bs) else option_and_then positive (number_of (b ∷ bs))
