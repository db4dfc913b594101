-- The lane that a line of a trace names.
use Rattle.std.specs.Prelude.{ℕ, ◌+◌, ◌-◌, ◌*◌, ◌≤◌, ◌^◌, ◌==◌, List, [], ◌∷◌, not, Option, Some, None}
use Rattle.std.specs.Prelude.{⊤, if◌then◌else◌, codes, drop, take, position, slice_index}
use Rattle.std.specs.Char.{is_ascii_digit}
use Rattle.std.specs.Str.{bytes_eq}

-- How many digits stand at the front of a text, where there is one and something stands behind them.
abbrev pub some_digits : Option ℕ → Option ℕ
some_digits None = None
some_digits (Some count) = if count == 0 then None else Some count

abbrev pub front_length : List ℕ → Option ℕ
front_length text = some_digits (position (λ b. not (is_ascii_digit b)) text)

-- The number that digits spell, behind a number.
abbrev pub value_behind : ℕ → List ℕ → ℕ
value_behind n [] = n
value_behind n (d ∷ ds) = value_behind (n * 10 + (d - 48)) ds

abbrev pub value_of : List ℕ → ℕ
value_of digits = value_behind 0 digits

-- The number in front of a space.
abbrev pub number_of : List ℕ → Option ℕ → Option ℕ
number_of text None = None
number_of text (Some count) = if slice_index text count == 32 then Some (value_of (take count text)) else None

-- The lane behind the digits of a place, a space and `L`.
abbrev pub lane_of : List ℕ → Option ℕ → Option ℕ
lane_of line None = None
lane_of line (Some place) =
    if bytes_eq (take 2 (drop place line)) (codes " L")
    then number_of (drop 2 (drop place line)) (front_length (drop 2 (drop place line)))
    else None

-- The lane that a line names: its front is a decimal number, a space, `L`, a lane's number and a space.
abbrev pub named : List ℕ → Option ℕ
named line = lane_of line (front_length line)

-- No number, or one that 32 bits do not hold.
abbrev pub IsNoLane : Option ℕ → Type 0
IsNoLane None = ⊤
IsNoLane (Some lane) = 2 ^ 32 ≤ lane
