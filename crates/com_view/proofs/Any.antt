-- Whether some number from 1 on passes a test, and the least of the times of such numbers.
use Rattle.std.proofs.Common.{◌≡◌, ℕ, zero, suc, ◌+◌, Bool, true, false, ◌||◌, min, List, [], ◌∷◌, ◌++◌, Option, Some, None, refl, ap, ◌∙◌, add-one, arith}
use Rattle.std.specs.List.{filter_map}
use Rattle.std.proofs.lemmas.List.Elements.{filter_map-append}
use Rattle.com_model.specs.Lists.{any_of, one_to, least, lesser}
use Rattle.com_view.specs.Times.{sooner}

any_append : (f : ℕ → Bool) (xs ys : List ℕ) → any_of f (xs ++ ys) ≡ (any_of f xs || any_of f ys)
any_append f [] ys = refl
any_append f (x ∷ xs) ys = elim (f x) as (λ t. (t || any_of f (xs ++ ys)) ≡ ((t || any_of f xs) || any_of f ys)) [ true ↦ refl | false ↦ any_append f xs ys ]

any_suc : (f : ℕ → Bool) (n : ℕ) → any_of f (one_to (suc n)) ≡ (any_of f (one_to n) || (f (suc n) || false))
any_suc f n = any_append f (one_to n) (suc n ∷ [])

pub any_more : (f : ℕ → Bool) (n : ℕ) → any_of f (one_to n) ≡ false → f (n + 1) ≡ false → any_of f (one_to (n + 1)) ≡ false
any_more f n p q = rw add-one (any_suc f n ∙ (let h : f (suc n) ≡ false = rw add-one at q in rw (p, h) refl))

or_true : (b : Bool) → (b || true) ≡ true
or_true true = refl
or_true false = refl

pub any_here : (f : ℕ → Bool) (n m k : ℕ) → n + 1 + k ≡ m → f (n + 1) ≡ true → any_of f (one_to m) ≡ true
any_here f n zero k e q = absurd (omega arith)
any_here f n (suc m) zero e q =
    let g : suc m ≡ n + 1 = omega arith in
    let h : f (suc m) ≡ true = ap f g ∙ q in
    any_suc f m ∙ rw h (or_true (any_of f (one_to m)))
any_here f n (suc m) (suc k) e q =
    let r : any_of f (one_to m) ≡ true = any_here f n m k (omega arith) q in
    any_suc f m ∙ rw r refl

lesser_swap : (x t : ℕ) (o : Option ℕ) → lesser x (lesser t o) ≡ lesser t (lesser x o)
lesser_swap x t None = let e : min x t ≡ min t x = omega arith in ap (λ (n : ℕ). Some n) e
lesser_swap x t (Some y) = let e : min x (min t y) ≡ min t (min x y) = omega arith in ap (λ (n : ℕ). Some n) e

least_last : (t : ℕ) (xs : List ℕ) → least (xs ++ t ∷ []) ≡ lesser t (least xs)
least_last t [] = refl
least_last t (x ∷ xs) = ap (lesser x) (least_last t xs) ∙ lesser_swap x t (least xs)

least_nil : (xs : List ℕ) → least (xs ++ []) ≡ least xs
least_nil [] = refl
least_nil (x ∷ xs) = ap (lesser x) (least_nil xs)

lesser_sooner : (t : ℕ) (o : Option ℕ) → lesser t o ≡ sooner (Some t) o
lesser_sooner t None = refl
lesser_sooner t (Some y) = refl

sooner_last : (o : Option ℕ) (n : ℕ) (xs : List ℕ) → least (xs ++ filter_map (λ (y : ℕ). o) (n ∷ [])) ≡ sooner o (least xs)
sooner_last None n xs = least_nil xs
sooner_last (Some t) n xs = least_last t xs ∙ lesser_sooner t (least xs)

pub times_more : (f : ℕ → Option ℕ) (n : ℕ) → least (filter_map f (one_to (n + 1))) ≡ sooner (f (n + 1)) (least (filter_map f (one_to n)))
times_more f n = rw add-one (ap least (filter_map-append f (one_to n) (suc n ∷ [])) ∙ sooner_last (f (suc n)) (suc n) (filter_map f (one_to n)))
