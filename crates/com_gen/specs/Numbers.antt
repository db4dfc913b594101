-- The words that spell the number of a text.
use Rattle.std.specs.Prelude.{ℕ, ◌+◌, ◌-◌, ◌*◌, ◌==◌, ◌||◌, List, [], ◌∷◌, Option, Some, None, if◌then◌else◌}
use Rattle.std.specs.Prelude.{length, nat_lt}
use Rattle.std.specs.Char.{is_ascii_digit}
use Rattle.com_gen.specs.declared.numbers.TheConstants.{GREATEST, LONGEST}

-- The number that is spelled by digits behind those of a number, from 1 to `GREATEST`.
abbrev pub number_behind : ℕ → List ℕ → Option ℕ
number_behind n [] = if n == 0 then None else Some n
number_behind n (d ∷ ds) =
    if is_ascii_digit d
    then (if nat_lt GREATEST (n * 10 + (d - 48)) then None else number_behind (n * 10 + (d - 48)) ds)
    else None

-- The number that a word of one digit to `LONGEST` digits spells.
unfoldable pub number_of : List ℕ → Option ℕ
number_of word = if length word == 0 || nat_lt LONGEST (length word) then None else number_behind 0 word
