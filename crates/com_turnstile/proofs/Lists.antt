-- A list after one of its elements has changed, prefixes, and the entries of a lane.
use Rattle.std.proofs.Common.{◌≡◌, ◌≢◌, ◌⊎◌, ℕ, zero, suc, ◌+◌, ◌<◌, List, [], ◌∷◌, ◌++◌, length, set, refl, sym, ap, ◌∙◌, inl, inr, ⊎_elim, arith, append_assoc, length-append, ne_eqb}
use Rattle.std.proofs.lemmas.List.{append-nil}
use Rattle.std.specs.Prelude.{slice_get, Some}
use Rattle.std.proofs.lemmas.List.Elements.{All-head, All-tail}
use mathlib.Core.Option.{some, some-ne-none, some-injective}
use mathlib.Core.List.{IsPrefix}
use lib.ListN.{get_elem?}
use Rattle.atomic_table.proofs.Lists.{at_set}
use Rattle.com_turnstile.specs.Entries.{of_lane, AreOf}

module _ {A : Type 0} where
  -- the element that was there before, with what became of it
  pub record Before (l : List A) (i : ℕ) (a b : A) (j : ℕ) (y : A) : Type 0 where
    pub was : A
    pub at : get_elem? l j ≡ some was
    pub case : ((j ≡ i) × (y ≡ b) × (was ≡ a)) ⊎ ((j ≢ i) × (y ≡ was))

  pub before : (l : List A) (i : ℕ) (a b : A) (j : ℕ) (y : A) → get_elem? l i ≡ some a → get_elem? (set l i b) j ≡ some y → Before l i a b j y
  before l i a b j y e h =
      ⊎_elim (λ t. record { was = a; at = ap (λ (k : ℕ). get_elem? l k) t.0 ∙ e; case = inl (t.0, sym t.1, refl) })
      (λ t. record { was = y; at = t.1; case = inr (t.0, refl) })
      (at_set l i j b y h)

  pub set_at : (l : List A) (i : ℕ) (a b : A) → get_elem? l i ≡ some a → get_elem? (set l i b) i ≡ some b
  set_at [] i a b e = absurd (some-ne-none a (sym e))
  set_at (x ∷ xs) zero a b e = refl
  set_at (x ∷ xs) (suc i) a b e = set_at xs i a b e

  -- at the end of a longer list, or before it
  pub at_end : (l : List A) (a b : A) (j : ℕ) → get_elem? (l ++ a ∷ []) j ≡ some b → ((j < length l) × (get_elem? l j ≡ some b)) ⊎ ((j ≡ length l) × (a ≡ b))
  at_end [] a b zero e = inr (refl, some-injective a b e)
  at_end [] a b (suc j) e = absurd (some-ne-none b (sym e))
  at_end (x ∷ xs) a b zero e = inl (omega arith, e)
  at_end (x ∷ xs) a b (suc j) e = ⊎_elim (λ t. inl (let n = t.0 in omega arith, t.1)) (λ t. inr (ap suc t.0, t.1)) (at_end xs a b j e)

  -- the same of a vector's list
  pub slice_get_end : (l : List A) (a b : A) (j : ℕ) → slice_get (l ++ a ∷ []) j ≡ Some b → ((j < length l) × (slice_get l j ≡ Some b)) ⊎ ((j ≡ length l) × (a ≡ b))
  slice_get_end [] a b zero e = inr (refl, cc)
  slice_get_end [] a b (suc j) e = absurd (cc (e))
  slice_get_end (x ∷ xs) a b zero e = inl (omega arith, e)
  slice_get_end (x ∷ xs) a b (suc j) e = ⊎_elim (λ t. inl (let n = t.0 in omega arith, t.1)) (λ t. inr (ap suc t.0, t.1)) (slice_get_end xs a b j e)

  pub slice_get_longer : (l m : List A) (i : ℕ) (a : A) → slice_get l i ≡ Some a → slice_get (l ++ m) i ≡ Some a
  slice_get_longer [] m i a e = absurd (cc (e))
  slice_get_longer (x ∷ xs) m zero a e = e
  slice_get_longer (x ∷ xs) m (suc i) a e = slice_get_longer xs m i a e

  pub slice_get_last : (l : List A) (a : A) (n : ℕ) → length l ≡ n → slice_get (l ++ a ∷ []) n ≡ Some a
  slice_get_last [] a zero e = refl
  slice_get_last [] a (suc n) e = absurd (omega arith)
  slice_get_last (x ∷ xs) a zero e = absurd (omega arith)
  slice_get_last (x ∷ xs) a (suc n) e = slice_get_last xs a n (omega arith)

  pub longer : (xs ys : List A) (a : A) → ys ≡ xs ++ a ∷ [] → length ys ≡ length xs + 1
  longer xs ys a e = ap length e ∙ length-append xs (a ∷ [])

  pub prefix_more : (xs ys more : List A) → IsPrefix xs ys → IsPrefix xs (ys ++ more)
  prefix_more xs ys more p = (p.0 ++ more, sym (append_assoc xs p.0 more) ∙ ap (λ w. w ++ more) p.1)

  pub prefix_all : (xs : List A) → IsPrefix xs xs
  prefix_all xs = ([], append-nil xs)

  -- of two beginnings of one list one begins with the other
  pub comparable : (xs ys zs : List A) → IsPrefix xs zs → IsPrefix ys zs → IsPrefix xs ys ⊎ IsPrefix ys xs
  comparable [] ys zs p q = inl (ys, refl)
  comparable (x ∷ xs) [] zs p q = inr (x ∷ xs, refl)
  comparable (x ∷ xs) (y ∷ ys) [] p q = absurd (cc (p.1))
  comparable (x ∷ xs) (y ∷ ys) (z ∷ zs) p q =
      let heads : x ≡ y = cc (p.1, q.1) in
      ⊎_elim (λ t. inl (t.0, cc (heads, t.1))) (λ t. inr (t.0, cc (heads, t.1))) (comparable xs ys zs (p.0, cc (p.1)) (q.0, cc (q.1)))

-- entries of the lane n or lane 0 have none of another lane
pub none_of_another : {E : Type 0} (lane : E → ℕ) (n k : ℕ) → k ≢ n → 0 < k → (entries : List E) → AreOf lane n entries → of_lane lane k entries ≡ []
none_of_another {E = E} lane n k ne pos [] are = refl
none_of_another {E = E} lane n k ne pos (e ∷ es) are =
    let P : E → Type 0 = λ (x : E). (lane x ≡ n) ⊎ (lane x ≡ 0) in
    let not_k : lane e ≢ k = λ is. ⊎_elim (λ q. ne (sym is ∙ q)) (λ q. let z : k ≡ 0 = sym is ∙ q in omega arith) (All-head P e es are) in
    rw (ne_eqb (lane e) k not_k) (none_of_another lane n k ne pos es (All-tail P e es are))
