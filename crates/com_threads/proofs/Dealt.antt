-- Rows and passes that are dealt to workers, from the last on.
use Rattle.std.proofs.Common.{◌≡◌, ℕ, zero, suc, ◌+◌, ◌<◌, ◌≤◌, List, [], ◌∷◌, ◌++◌, length, take, refl, sym, ap, ◌∙◌, subst, arith, All, Some, length-append}
use Rattle.std.specs.Prelude.{slice_get, slice_index_or}
use Rattle.std.proofs.lemmas.List.Elements.{All-nil, All-cons, All-head, All-tail, All-pop}
use Rattle.com_turnstile.proofs.Lists.{slice_get_longer, slice_get_last}

module _ {X : Type 0} where
  pub all_taken : (P : X → Type 0) (n : ℕ) (xs : List X) → All P xs → All P (take n xs)
  all_taken P zero xs h = All-nil P
  all_taken P (suc n) [] h = All-nil P
  all_taken P (suc n) (x ∷ xs) h = All-cons P x (take n xs) (All-head P x xs h) (all_taken P n xs (All-tail P x xs h))

  pub length_taken : (n : ℕ) (xs : List X) → n ≤ length xs → length (take n xs) ≡ n
  length_taken zero xs h = refl
  length_taken (suc n) [] h = absurd (omega arith)
  length_taken (suc n) (x ∷ xs) h = ap suc (length_taken n xs (omega arith))

  pub all_popped : (P : X → Type 0) (xs ys : List X) (x : X) → xs ≡ ys ++ x ∷ [] → All P xs → All P ys × P x
  all_popped P xs ys x e h = All-pop P xs ys (Some x) e h

  pub one_less : (xs ys : List X) (x : X) → xs ≡ ys ++ x ∷ [] → length xs ≡ length ys + 1
  one_less xs ys x e = ap length e ∙ length-append ys (x ∷ [])

  pub each_before : (P : ℕ → X → Type 0) (xs ys : List X) (x : X) → xs ≡ ys ++ x ∷ [] → ((i : ℕ) (p : X) → slice_get xs i ≡ Some p → P i p) → (i : ℕ) (p : X) → slice_get ys i ≡ Some p → P i p
  each_before P xs ys x e each i p at = each i p (ap (λ (l : List X). slice_get l i) e ∙ slice_get_longer ys (x ∷ []) i p at)

  pub last_of_each : (P : ℕ → X → Type 0) (xs ys : List X) (x : X) → xs ≡ ys ++ x ∷ [] → ((i : ℕ) (p : X) → slice_get xs i ≡ Some p → P i p) → P (length ys) x
  last_of_each P xs ys x e each = each (length ys) x (ap (λ (l : List X). slice_get l (length ys)) e ∙ slice_get_last ys x (length ys) refl)

  -- what holds of all holds of one that is read
  pub all_at : (P : X → Type 0) (xs : List X) (i : ℕ) (x : X) → All P xs → i < length xs → x ≡ slice_index_or xs i x → P x
  all_at P xs i x all less is = subst P (sym is) (all i x less)
