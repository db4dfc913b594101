-- Whether each number in a row passes a test, one after another.
use Rattle.std.proofs.Common.{◌≡◌, ℕ, zero, suc, ◌+◌, ◌<◌, Bool, true, false, ◌&&◌, List, [], ◌∷◌, ◌++◌, is_some, is_none, refl, ap, sym, ◌∙◌, add-one, arith}
use Rattle.com_refs_books.specs.Counting.{numbers_from}
use Rattle.com_model.specs.Lists.{each_of, one_to, first, is_empty}

each-append : (f : ℕ → Bool) (xs ys : List ℕ) → each_of f (xs ++ ys) ≡ (each_of f xs && each_of f ys)
each-append f [] ys = refl
each-append f (x ∷ xs) ys = elim (f x) as (λ t. (t && each_of f (xs ++ ys)) ≡ ((t && each_of f xs) && each_of f ys)) [ true ↦ each-append f xs ys | false ↦ refl ]

and-false : (b : Bool) → (b && false) ≡ false
and-false true = refl
and-false false = refl

one-more : (f : ℕ → Bool) (n : ℕ) → each_of f (one_to (suc n)) ≡ (each_of f (one_to n) && (f (suc n) && true))
one-more f n = each-append f (one_to n) (suc n ∷ [])

pub each_one_more : (f : ℕ → Bool) (n : ℕ) → each_of f (one_to n) ≡ true → f (n + 1) ≡ true → each_of f (one_to (n + 1)) ≡ true
each_one_more f n p q = rw add-one (one-more f n ∙ (let h : f (suc n) ≡ true = rw add-one at q in rw (p, h) refl))

pub each_not_one : (f : ℕ → Bool) (n m k : ℕ) → n + 1 + k ≡ m → f (n + 1) ≡ false → each_of f (one_to m) ≡ false
each_not_one f n zero k e q = absurd (omega arith)
each_not_one f n (suc m) zero e q =
    let g : suc m ≡ n + 1 = omega arith in
    let h : f (suc m) ≡ false = ap f g ∙ q in
    one-more f m ∙ rw h (and-false (each_of f (one_to m)))
each_not_one f n (suc m) (suc k) e q =
    let r : each_of f (one_to m) ≡ false = each_not_one f n m k (omega arith) q in
    one-more f m ∙ rw r refl

-- ---- numbers from one on

and-first : (b c : Bool) → (b && c) ≡ true → b ≡ true
and-first true c e = refl
and-first false c e = e

and-rest : (b c : Bool) → (b && c) ≡ true → c ≡ true
and-rest true c e = e
and-rest false c e = cc

last-more : (f : ℕ → Bool) (n k : ℕ) → each_of f (numbers_from n k) ≡ true → f (n + k) ≡ true → each_of f (numbers_from n (suc k)) ≡ true
last-more f n zero p q = let e : n + 0 ≡ n = omega arith in ap (λ (m : ℕ). f m && true) (sym e) ∙ ap (λ (b : Bool). b && true) q
last-more f n (suc k) p q =
    let here : f n ≡ true = and-first (f n) (each_of f (numbers_from (n + 1) k)) p in
    let rest : each_of f (numbers_from (n + 1) k) ≡ true = and-rest (f n) (each_of f (numbers_from (n + 1) k)) p in
    let e : n + suc k ≡ (n + 1) + k = omega arith in
    rw here (last-more f (n + 1) k rest (ap f (sym e) ∙ q))

pub each_from_more : (f : ℕ → Bool) (n k : ℕ) → each_of f (numbers_from n k) ≡ true → f (n + k) ≡ true → each_of f (numbers_from n (k + 1)) ≡ true
each_from_more f n k p q = rw add-one (last-more f n k p q)

pub each_not_from : (f : ℕ → Bool) (n k j : ℕ) → j < k → f (n + j) ≡ false → each_of f (numbers_from n k) ≡ false
each_not_from f n zero j p q = absurd (omega arith)
each_not_from f n (suc k) zero p q = let e : n + 0 ≡ n = omega arith in ap (λ (b : Bool). b && each_of f (numbers_from (n + 1) k)) (ap f (sym e) ∙ q)
each_not_from f n (suc k) (suc j) p q =
    let e : n + suc j ≡ (n + 1) + j = omega arith in
    ap (λ (b : Bool). f n && b) (each_not_from f (n + 1) k j (omega arith) (ap f (sym e) ∙ q)) ∙ and-false (f n)

-- ---- a list by its first

pub empty_first : {X : Type 0} (xs : List X) → is_empty xs ≡ is_none (first xs)
empty_first [] = refl
empty_first (x ∷ xs) = refl

-- ---- tests of two lists by their firsts

pub not_first : {X : Type 0} (xs : List X) (ys : List ℕ) → is_some (first xs) ≡ true → false ≡ (is_empty xs && is_empty ys)
not_first [] ys e = cc
not_first (x ∷ xs) ys e = refl

pub none_first : (xs : List ℕ) (r : Bool) → r ≡ is_none (first xs) → r ≡ is_empty xs
none_first [] r e = e
none_first (x ∷ xs) r e = e

pub not_second : {X : Type 0} (xs : List X) (ys : List ℕ) (r : Bool) → is_some (first xs) ≡ false → r ≡ is_none (first ys) → r ≡ (is_empty xs && is_empty ys)
not_second [] [] r e p = p
not_second [] (y ∷ ys) r e p = p
not_second (x ∷ xs) ys r e p = cc
