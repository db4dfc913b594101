-- The greatest of a list of numbers.
use Rattle.std.specs.Prelude.{ℕ, ◌≤◌, List, slice_index_or}

-- Each number in the list is at most so much.
abbrev pub Most : ℕ → List ℕ → Type 0
Most n xs = (o : ℕ) → slice_index_or xs o 0 ≤ n
