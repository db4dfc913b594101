-- Nodes of which the first are written, and one of them set.
use Rattle.std.proofs.Common.{◌≡◌, ℕ, ◌+◌, ◌-◌, ◌<◌, ◌≤◌, List, [], ◌∷◌, ◌++◌, length, zero, suc, set, refl, sym, ap, replicate, ◌∙◌, arith}

-- one of the first is set
pub set_first : {X : Type 0} (xs ys : List X) (k : ℕ) (v : X) → k < length xs → set (xs ++ ys) k v ≡ set xs k v ++ ys
set_first [] ys k v h = absurd (omega arith)
set_first (x ∷ xs) ys zero v h = refl
set_first {X} (x ∷ xs) ys (suc k) v h = ap (λ (zs : List X). x ∷ zs) (set_first xs ys k v (omega arith))

set_replicate : {X : Type 0} (d v : X) (j k : ℕ) → k < j → set (replicate j d) k v ≡ (replicate k d ++ v ∷ []) ++ replicate (j - (k + 1)) d
set_replicate d v zero k h = absurd (omega arith)
set_replicate {X} d v (suc j) zero h =
    let e : suc j - (0 + 1) ≡ j = omega arith in
    rw e refl
set_replicate {X} d v (suc j) (suc k) h =
    let e : suc j - (suc k + 1) ≡ j - (k + 1) = omega arith in
    rw e (ap (λ (zs : List X). d ∷ zs) (set_replicate d v j k (omega arith)))

-- one behind them is set
pub set_behind : {X : Type 0} (d v : X) (xs : List X) (j k : ℕ) → length xs ≤ k → k < length xs + j
    → set (xs ++ replicate j d) k v ≡ ((xs ++ replicate (k - length xs) d) ++ v ∷ []) ++ replicate (length xs + j - (k + 1)) d
set_behind d v [] j k low high =
    let a : k - 0 ≡ k = omega arith in
    let b : 0 + j - (k + 1) ≡ j - (k + 1) = omega arith in
    rw (a, b) (set_replicate d v j k (omega arith))
set_behind d v (x ∷ xs) j zero low high = absurd (omega arith)
set_behind {X} d v (x ∷ xs) j (suc k) low high =
    let a : suc k - suc (length xs) ≡ k - length xs = omega arith in
    let b : suc (length xs) + j - (suc k + 1) ≡ length xs + j - (k + 1) = omega arith in
    rw (a, b) (ap (λ (zs : List X). x ∷ zs) (set_behind d v xs j k (omega arith) (omega arith)))

-- more nodes behind the written ones
pub replicate_more : {X : Type 0} (d : X) (i j : ℕ) → replicate (i + j) d ≡ replicate i d ++ replicate j d
replicate_more d zero j = ap (λ (n : ℕ). replicate n d) (omega arith)
replicate_more {X} d (suc i) j =
    let e : suc i + j ≡ suc (i + j) = omega arith in
    rw e (ap (λ (zs : List X). d ∷ zs) (replicate_more d i j))

more_behind : {X : Type 0} (d : X) (xs : List X) (i j : ℕ) → xs ++ replicate (i + j) d ≡ (xs ++ replicate i d) ++ replicate j d
more_behind d [] i j = replicate_more d i j
more_behind {X} d (x ∷ xs) i j = ap (λ (zs : List X). x ∷ zs) (more_behind d xs i j)

length-stored : {X : Type 0} (d : X) (xs : List X) (j : ℕ) → length (xs ++ replicate j d) ≡ length xs + j
length-stored d [] zero = refl
length-stored d [] (suc j) = omega (arith, length-stored d [] j)
length-stored d (x ∷ xs) j = omega (arith, length-stored d xs j)

-- what is seen where there are more nodes, none of them written
pub seen_grown : {X : Type 0} (d : X) (xs ys now : List X) (n m lx ly : ℕ) → xs ++ replicate (n - lx) d ≡ now → ys ≡ xs → lx ≡ length xs → ly ≡ lx → lx ≤ n → length now ≤ m
    → ys ++ replicate (m - ly) d ≡ now ++ replicate (m - length now) d
seen_grown {X} d xs ys now n m lx ly seen same long as_long within more =
    let l : length now ≡ length xs + (n - lx) = ap length (sym seen) ∙ length-stored d xs (n - lx) in
    let a : m - ly ≡ (n - lx) + (m - length now) = omega (arith, l, long, as_long, within, more) in
    ap (λ (zs : List X). zs ++ replicate (m - ly) d) same
    ∙ ap (λ (k : ℕ). xs ++ replicate k d) a
    ∙ more_behind d xs (n - lx) (m - length now)
    ∙ ap (λ (zs : List X). zs ++ replicate (m - length now) d) seen

-- what is seen where a written node is set
pub seen_set : {X : Type 0} (d v : X) (xs now : List X) (j k : ℕ) → xs ++ replicate j d ≡ now → k < length xs → set xs k v ++ replicate j d ≡ set now k v
seen_set {X} d v xs now j k seen low = sym (set_first xs (replicate j d) k v low) ∙ ap (λ (zs : List X). set zs k v) seen

-- what is seen where a node behind the written ones is set
pub seen_set_behind : {X : Type 0} (d v : X) (xs ws ps now : List X) (n k lx lw lp : ℕ) → xs ++ replicate (n - lx) d ≡ now → lx ≡ length xs → lx ≤ k → k < length now
    → ws ≡ xs ++ replicate (k - lx) d → ps ≡ ws ++ v ∷ [] → lw ≡ k → lp ≡ lw + 1
    → ps ++ replicate (n - lp) d ≡ set now k v
seen_set_behind {X} d v xs ws ps now n k lx lw lp seen long behind within w p lw_is lp_is =
    let l : length now ≡ length xs + (n - lx) = ap length (sym seen) ∙ length-stored d xs (n - lx) in
    let a : n - lp ≡ length xs + (n - lx) - (k + 1) = omega (arith, l, long, behind, within, lw_is, lp_is) in
    let b : k - lx ≡ k - length xs = omega (arith, long) in
    ap (λ (zs : List X). zs ++ replicate (n - lp) d) (p ∙ ap (λ (zs : List X). zs ++ v ∷ []) (w ∙ ap (λ (i : ℕ). xs ++ replicate i d) b))
    ∙ ap (λ (i : ℕ). ((xs ++ replicate (k - length xs) d) ++ v ∷ []) ++ replicate i d) a
    ∙ sym (set_behind d v xs (n - lx) k (omega (arith, long, behind)) (omega (arith, l, within)))
    ∙ ap (λ (zs : List X). set zs k v) seen
