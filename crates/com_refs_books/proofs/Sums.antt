-- Sums of tables of numbers.
use Rattle.std.proofs.Common.{◌≡◌, ℕ, Bool, true, false, eqb, cond, ◌+◌, ◌<◌, ◌≤◌, zero, suc, refl, subst, arith, eqb-true, add-zero, add-suc}
use Rattle.std.proofs.lemmas.Bool.{eqb-false}
use Rattle.com_refs_books.specs.Counting.{sum_below}

-- Tables that agree have one sum.
pub sum-same : (n : ℕ) (f g : ℕ → ℕ) → ((k : ℕ) → k < n → f k ≡ g k) → sum_below n f ≡ sum_below n g
sum-same zero f g p = refl
sum-same (suc n) f g p = omega (arith, sum-same n f g (λ k h. p k (omega arith)), p n (omega arith))

-- A table changed at one key.
pub sum-changed : (n k : ℕ) (f g : ℕ → ℕ) → k < n → ((j : ℕ) → (j ≡ k → ⊥) → f j ≡ g j) → sum_below n g + f k ≡ sum_below n f + g k
sum-changed zero k f g h p = absurd (omega arith)
sum-changed (suc n) k f g h p =
    elim (eqb n k) as (λ b. eqb n k ≡ b → sum_below (suc n) g + f k ≡ sum_below (suc n) f + g k) [
      | true ↦ λ e. let same : n ≡ k = eqb-true n k e in
          let rest : sum_below n f ≡ sum_below n g = sum-same n f g (λ j l. p j (λ q. omega arith)) in
          subst (λ (j : ℕ). sum_below (suc n) g + f j ≡ sum_below (suc n) f + g j) same (omega (arith, rest))
      | false ↦ λ e. let here : f n ≡ g n = p n (eqb-false n k e) in
          let other : (n ≡ k → ⊥) = eqb-false n k e in
          omega (arith, here, sum-changed n k f g (grind (arith, other)) p)
    ] refl

-- What is kept and what is given back.
pub sum-split : (n : ℕ) (t : ℕ → Bool) (f : ℕ → ℕ) → sum_below n (λ k. cond (t k) 0 (f k)) + sum_below n (λ k. cond (t k) (f k) 0) ≡ sum_below n f
sum-split zero t f = refl
sum-split (suc n) t f =
    elim (t n) as (λ b. (sum_below n (λ k. cond (t k) 0 (f k)) + cond b 0 (f n)) + (sum_below n (λ k. cond (t k) (f k) 0) + cond b (f n) 0) ≡ sum_below n f + f n) [
      | true ↦ omega (arith, sum-split n t f)
      | false ↦ omega (arith, sum-split n t f)
    ]

pub sum-nothing : (n : ℕ) (f : ℕ → ℕ) → ((k : ℕ) → f k ≡ 0) → sum_below n f ≡ 0
sum-nothing zero f p = refl
sum-nothing (suc n) f p = omega (arith, sum-nothing n f p, p n)

pub sum-cut : (n : ℕ) (t : Bool) (f : ℕ → ℕ) → sum_below n (λ a. cond t (f a) 0) ≡ cond t (sum_below n f) 0
sum-cut n true f = refl
sum-cut n false f = sum-nothing n (λ a. 0) (λ k. refl)

-- A table with nothing from n on.
pub sum-more : (n k : ℕ) (f : ℕ → ℕ) → ((j : ℕ) → n ≤ j → f j ≡ 0) → sum_below (n + k) f ≡ sum_below n f
sum-more n zero f p = rw add-zero refl
sum-more n (suc k) f p = rw add-suc (omega (arith, sum-more n k f p, p (n + k) (omega arith)))
