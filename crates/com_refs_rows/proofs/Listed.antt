-- Numbers one after another.
use Rattle.std.proofs.Common.{◌≡◌, ℕ, suc, Bool, true, false, cond, ◌||◌, ◌+◌, ◌-◌, ◌<◌, ◌≤◌, List, [], ◌∷◌, sym, ap, ◌∙◌, arith}
use Rattle.std.specs.Prelude.{Some, None}
use Rattle.com_refs_books.specs.Counting.{numbers_from}
use Rattle.com_model.specs.Lists.{any_of, first_that}

numbers_next : (n c k : ℕ) → k < c → numbers_from (n + k) (c - k) ≡ (n + k) ∷ numbers_from (n + (k + 1)) (c - (k + 1))
numbers_next n c k h =
    let some : c - k ≡ suc (c - (k + 1)) = omega (arith, h) in
    let same : n + k + 1 ≡ n + (k + 1) = omega arith in
    ap (λ (m : ℕ). numbers_from (n + k) m) some ∙ ap (λ (m : ℕ). (n + k) ∷ numbers_from m (c - (k + 1))) same

numbers_none : (n c k : ℕ) → c ≤ k → numbers_from (n + k) (c - k) ≡ []
numbers_none n c k h =
    let none : c - k ≡ 0 = omega (arith, h) in
    ap (λ (m : ℕ). numbers_from (n + k) m) none

numbers_all : (n c : ℕ) → numbers_from n c ≡ numbers_from (n + 0) (c - 0)
numbers_all n c =
    let first : n ≡ n + 0 = omega arith in
    let count : c ≡ c - 0 = omega arith in
    ap (λ (m : ℕ). numbers_from m c) first ∙ ap (λ (m : ℕ). numbers_from (n + 0) m) count

-- ---- whether one of them passes a test

pub any_first : (f : ℕ → Bool) (n c : ℕ) → any_of f (numbers_from n c) ≡ any_of f (numbers_from (n + 0) (c - 0))
any_first f n c = ap (λ (l : List ℕ). any_of f l) (numbers_all n c)

any_next : (f : ℕ → Bool) (n c k : ℕ) (b : Bool) → k < c → f (n + k) ≡ b → any_of f (numbers_from n c) ≡ any_of f (numbers_from (n + k) (c - k))
    → any_of f (numbers_from n c) ≡ b || any_of f (numbers_from (n + (k + 1)) (c - (k + 1)))
any_next f n c k b h e inv = inv ∙ ap (λ (l : List ℕ). any_of f l) (numbers_next n c k h) ∙ ap (λ (x : Bool). x || any_of f (numbers_from (n + (k + 1)) (c - (k + 1)))) e

pub any_found : (f : ℕ → Bool) (n c k : ℕ) → k < c → f (n + k) ≡ true → any_of f (numbers_from n c) ≡ any_of f (numbers_from (n + k) (c - k)) → true ≡ any_of f (numbers_from n c)
any_found f n c k h e inv = sym (any_next f n c k true h e inv)

pub any_passed : (f : ℕ → Bool) (n c k : ℕ) → k < c → f (n + k) ≡ false → any_of f (numbers_from n c) ≡ any_of f (numbers_from (n + k) (c - k)) → any_of f (numbers_from n c) ≡ any_of f (numbers_from (n + (k + 1)) (c - (k + 1)))
any_passed f n c k h e inv = any_next f n c k false h e inv

pub any_none : (f : ℕ → Bool) (n c k : ℕ) → c ≤ k → any_of f (numbers_from n c) ≡ any_of f (numbers_from (n + k) (c - k)) → false ≡ any_of f (numbers_from n c)
any_none f n c k h inv = sym (inv ∙ ap (λ (l : List ℕ). any_of f l) (numbers_none n c k h))

-- ---- the first that passes one

pub first_first : (f : ℕ → Bool) (n c : ℕ) → first_that f (numbers_from n c) ≡ first_that f (numbers_from (n + 0) (c - 0))
first_first f n c = ap (λ (l : List ℕ). first_that f l) (numbers_all n c)

first_next : (f : ℕ → Bool) (n c k : ℕ) (b : Bool) → k < c → f (n + k) ≡ b → first_that f (numbers_from n c) ≡ first_that f (numbers_from (n + k) (c - k))
    → first_that f (numbers_from n c) ≡ cond b (Some (n + k)) (first_that f (numbers_from (n + (k + 1)) (c - (k + 1))))
first_next f n c k b h e inv = inv ∙ ap (λ (l : List ℕ). first_that f l) (numbers_next n c k h) ∙ ap (λ (x : Bool). cond x (Some (n + k)) (first_that f (numbers_from (n + (k + 1)) (c - (k + 1))))) e

pub first_found : (f : ℕ → Bool) (n c k : ℕ) → k < c → f (n + k) ≡ true → first_that f (numbers_from n c) ≡ first_that f (numbers_from (n + k) (c - k)) → Some (n + k) ≡ first_that f (numbers_from n c)
first_found f n c k h e inv = sym (first_next f n c k true h e inv)

pub first_passed : (f : ℕ → Bool) (n c k : ℕ) → k < c → f (n + k) ≡ false → first_that f (numbers_from n c) ≡ first_that f (numbers_from (n + k) (c - k)) → first_that f (numbers_from n c) ≡ first_that f (numbers_from (n + (k + 1)) (c - (k + 1)))
first_passed f n c k h e inv = first_next f n c k false h e inv

pub first_none : (f : ℕ → Bool) (n c k : ℕ) → c ≤ k → first_that f (numbers_from n c) ≡ first_that f (numbers_from (n + k) (c - k)) → None ≡ first_that f (numbers_from n c)
first_none f n c k h inv = sym (inv ∙ ap (λ (l : List ℕ). first_that f l) (numbers_none n c k h))
