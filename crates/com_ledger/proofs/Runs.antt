-- How many bodies of an object run, after one begins or ends.
use Rattle.std.proofs.Common.{ℕ, zero, suc, ◌+◌, ◌-◌, ◌≤◌, List, [], ◌∷◌, ◌++◌, arith, slice_set, slice_index_or}
use Rattle.com_ledger.specs.Most.{Most}

most_set : (n x : ℕ) (xs : List ℕ) (k : ℕ) → x ≤ n → Most n xs → Most n (slice_set xs k x)
most_set n x [] k p q o = q o
most_set n x (y ∷ ys) zero p q zero = p
most_set n x (y ∷ ys) zero p q (suc o) = q (suc o)
most_set n x (y ∷ ys) (suc k) p q zero = q zero
most_set n x (y ∷ ys) (suc k) p q (suc o) = most_set n x ys k p (λ j. q (suc j)) o

most_more : (n m : ℕ) (xs : List ℕ) → n ≤ m → Most n xs → Most m xs
most_more n m xs p q o = let e : slice_index_or xs o 0 ≤ n = q o in omega (arith, p, e)

pub entered_most : (n : ℕ) (xs : List ℕ) (k : ℕ) → Most n xs → Most (n + 1) (slice_set xs k (slice_index_or xs k 0 + 1))
entered_most n xs k q =
    let e : slice_index_or xs k 0 ≤ n = q k in
    most_set (n + 1) (slice_index_or xs k 0 + 1) xs k (omega (arith, e)) (most_more n (n + 1) xs (omega arith) q)

pub left_most : (n : ℕ) (xs : List ℕ) (k : ℕ) → Most n xs → Most (n + 1) (slice_set xs k (slice_index_or xs k 0 - 1))
left_most n xs k q =
    let e : slice_index_or xs k 0 ≤ n = q k in
    most_set (n + 1) (slice_index_or xs k 0 - 1) xs k (omega (arith, e)) (most_more n (n + 1) xs (omega arith) q)

pub kept_most : (n : ℕ) (xs : List ℕ) → Most n xs → Most (n + 1) xs
kept_most n xs q = most_more n (n + 1) xs (omega arith) q

pub made_most : (n : ℕ) (xs : List ℕ) → Most n xs → Most n (xs ++ 0 ∷ [])
made_most n [] q zero = omega arith
made_most n [] q (suc o) = omega arith
made_most n (x ∷ xs) q zero = q zero
made_most n (x ∷ xs) q (suc o) = made_most n xs (λ j. q (suc j)) o
