-- The values of digits.
use Rattle.std.proofs.Common.{◌≡◌, ℕ, ◌+◌, ◌-◌, ◌*◌, ◌<◌, ◌≤◌, List, [], ◌∷◌, refl, arith, length, drop, get_or, add-one}
use Rattle.std.proofs.Math.Seq.{drop-cons}
use Rattle.com_check.specs.Fronts.{value_behind, value_of}

-- More digits make no smaller number.
value_grows : (n : ℕ) (ds : List ℕ) → n ≤ value_behind n ds
value_grows n [] = omega arith
value_grows n (d ∷ ds) =
    let more : n * 10 + (d - 48) ≤ value_behind (n * 10 + (d - 48)) ds = value_grows (n * 10 + (d - 48)) ds in
    omega (arith, more)

value_step : (digits : List ℕ) (i v : ℕ) → i < length digits
    → value_behind v (drop i digits) ≡ value_behind (v * 10 + (get_or digits i 0 - 48)) (drop (i + 1) digits)
value_step digits i v h = rw (add-one, drop-cons digits i 0) refl

-- Where a front of digits has a great number, all of them have one.
pub value_is_great : (digits : List ℕ) (i v : ℕ) → i < length digits → value_behind v (drop i digits) ≡ value_behind 0 digits
    → 4294967295 < v * 10 + (get_or digits i 0 - 48) → 4294967296 ≤ value_of digits
value_is_great digits i v h whole great =
    let more : v * 10 + (get_or digits i 0 - 48) ≤ value_behind (v * 10 + (get_or digits i 0 - 48)) (drop (i + 1) digits) =
    value_grows (v * 10 + (get_or digits i 0 - 48)) (drop (i + 1) digits) in
    omega (arith, more, value_step digits i v h, whole, great)
