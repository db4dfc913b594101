-- The first of a list that passes a test.
use Rattle.std.proofs.Common.{◌≡◌, ℕ, ◌+◌, ◌<◌, Bool, true, false, List, ◌∷◌, Some, filter, drop, get_or, length, refl, ap, sym, ◌∙◌, add-one, drop-cons}
use Rattle.com_model.specs.Lists.{first}

at_true : (f : ℕ → Bool) (x : ℕ) (xs : List ℕ) → f x ≡ true → first (filter f (x ∷ xs)) ≡ Some x
at_true f x xs e = rw e refl

at_false : (f : ℕ → Bool) (x : ℕ) (xs : List ℕ) → f x ≡ false → filter f (x ∷ xs) ≡ filter f xs
at_false f x xs e = rw e refl

pub served_here : (f : ℕ → Bool) (xs : List ℕ) (i : ℕ) → i < length xs → f (get_or xs i 0) ≡ true → first (filter f (drop i xs)) ≡ Some (get_or xs i 0)
served_here f xs i p e = ap (λ (ys : List ℕ). first (filter f ys)) (drop-cons xs i 0 p) ∙ at_true f (get_or xs i 0) _ e

pub served_later : (f : ℕ → Bool) (xs : List ℕ) (i : ℕ) → i < length xs → f (get_or xs i 0) ≡ false → filter f (drop (i + 1) xs) ≡ filter f (drop i xs)
served_later f xs i p e = rw add-one (sym (ap (filter f) (drop-cons xs i 0 p) ∙ at_false f (get_or xs i 0) _ e))
