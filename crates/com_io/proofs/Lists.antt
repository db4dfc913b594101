-- Lists cut in two.
use Rattle.std.proofs.Common.{◌≡◌, ℕ, ◌+◌, List, ◌++◌, take, drop}
use Rattle.std.proofs.lemmas.List.{take-append-drop, drop-drop}

-- what was copied from the front, and then what is left, is what was there
pub front_and_rest : (bytes front : List ℕ) (at n : ℕ) → front ≡ take n (drop at bytes) → front ++ drop (at + n) bytes ≡ drop at bytes
front_and_rest bytes front at n e = rw (e, ← (drop-drop n at bytes)) (take-append-drop n (drop at bytes))
