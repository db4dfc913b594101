-- The objects after one is made and after one is released.
use Rattle.std.proofs.Common.{◌≡◌, ℕ, zero, suc, ◌+◌, ◌-◌, ◌<◌, ◌≤◌, ◌^◌, Bool, true, false, ◌==◌, ◌||◌, List, [], ◌∷◌, ◌++◌, length, Option, Some, None, refl, sym, ◌∙◌, ap, subst, ⊎_elim, arith, slice_index_or, slice_set, slice_get, eqb-true, lit<}
use Rattle.std.proofs.lemmas.Bool.{cases_eq, false_from_ne_true}
use Rattle.std.proofs.lemmas.Grind.{common_steps}
use Rattle.std.proofs.lemmas.List.{get_or-set_same, get_or-set_other, length-append, length-set, length-map, map-append}
use Rattle.com_model.specs.declared.keeps.Making.{Making}
use Rattle.com_model.specs.Lists.{from_one, is_member}
use Rattle.com_objects.specs.declared.objects.Row.{Row}
use Rattle.com_objects.specs.Kept.{ObjectsKept, unmade, makings_of, released_in, row_of, making_in, flag_in}

-- members, after one more

test-same : (x : ℕ) → (x == x) ≡ true
test-same x = grind (arith, common_steps)

test-other : (x y : ℕ) → (x ≡ y → ⊥) → (x == y) ≡ false
test-other x y ne = false_from_ne_true (x == y) (λ q. ne (eqb-true x y q))

or-false : (b : Bool) → (b || false) ≡ b
or-false true = refl
or-false false = refl

or-true : (b : Bool) → (b || true) ≡ true
or-true true = refl
or-true false = refl

member-push : (x : ℕ) (ys : List ℕ) (y : ℕ) → is_member x (ys ++ y ∷ []) ≡ (is_member x ys || x == y)
member-push x [] y = elim (x == y) as (λ b. (b || false) ≡ (false || b)) [ true ↦ refl | false ↦ refl ]
member-push x (z ∷ ys) y = ap (λ b. x == z || b) (member-push x ys y) ∙ (elim (x == z) as (λ b. (b || (is_member x ys || x == y)) ≡ ((b || is_member x ys) || x == y)) [ true ↦ refl | false ↦ refl ])

member-last : (x y : ℕ) (ys : List ℕ) → x ≡ y → is_member x (ys ++ y ∷ []) ≡ true
member-last x y ys e = member-push x ys y ∙ ap (λ z. is_member x ys || z) (subst (λ z. (x == z) ≡ true) e (test-same x)) ∙ or-true (is_member x ys)

member-kept : (x y : ℕ) (ys : List ℕ) → (x ≡ y → ⊥) → is_member x (ys ++ y ∷ []) ≡ is_member x ys
member-kept x y ys ne = member-push x ys y ∙ ap (λ z. is_member x ys || z) (test-other x y ne) ∙ or-false (is_member x ys)

-- rows

last-row : (rows : List Row) (k : ℕ) (r : Row) → r.is_released ≡ false → (slice_index_or (rows ++ r ∷ []) k unmade).is_released ≡ (slice_index_or rows k unmade).is_released
last-row [] zero r e = e
last-row [] (suc k) r e = refl
last-row (x ∷ rows) zero r e = refl
last-row (x ∷ rows) (suc k) r e = last-row rows k r e

released-grown : (rows : List Row) (o : ℕ) (r : Row) → r.is_released ≡ false → released_in (rows ++ r ∷ []) o ≡ released_in rows o
released-grown rows zero r e = refl
released-grown rows (suc k) r e = last-row rows k r e

pub kept_made : (rows : List Row) (finaled : List ℕ) (r : Row) → ObjectsKept rows finaled → length rows + 1 < 2 ^ 32 → r.is_released ≡ false → ObjectsKept (rows ++ r ∷ []) finaled
kept_made rows finaled r k room e = record {
  released = λ o. k.released o ∙ sym (released-grown rows o r e);
  numbered = omega (arith, length-append rows (r ∷ []), room);
}

released-set : (rows : List Row) (o p : ℕ) (r : Row) → 1 ≤ o → (p ≡ o → ⊥) → released_in (slice_set rows (o - 1) r) p ≡ released_in rows p
released-set rows o zero r h ne = refl
released-set rows o (suc k) r h ne = ap (λ (x : Row). x.is_released) (get_or-set_other rows (o - 1) k r unmade (λ e. ne (omega (arith, e, h))))

released-own : (rows : List Row) (o p : ℕ) (r : Row) → 1 ≤ o → o ≤ length rows → r.is_released ≡ true → p ≡ o → released_in (slice_set rows (o - 1) r) p ≡ true
released-own rows o zero r h le t e = absurd (omega (arith, e, h))
released-own rows o (suc k) r h le t e =
    let z : k ≡ o - 1 = omega (arith, e) in
    ap (λ (i : ℕ). (slice_index_or (slice_set rows (o - 1) r) i unmade).is_released) z ∙ ap (λ (x : Row). x.is_released) (get_or-set_same rows (o - 1) r unmade (omega (arith, h, le))) ∙ t

pub kept_released : (rows : List Row) (finaled : List ℕ) (o : ℕ) (r : Row) → ObjectsKept rows finaled → 1 ≤ o → o ≤ length rows → r.is_released ≡ true → ObjectsKept (slice_set rows (o - 1) r) (finaled ++ o ∷ [])
kept_released rows finaled o r k h le t = record {
  released = λ p. ⊎_elim
      (λ same. member-last p o finaled same ∙ sym (released-own rows o p r h le t same))
      (λ other. member-kept p o finaled other ∙ k.released p ∙ sym (released-set rows o p r h other))
      (cases_eq p o);
  numbered = omega (arith, length-set rows (o - 1) r, k.numbered);
}

pub kept_none : ObjectsKept [] []
kept_none = record { released = nothing; numbered = lit< tt }
  where
    nothing : (o : ℕ) → is_member o [] ≡ released_in [] o
    nothing zero = refl
    nothing (suc k) = refl

-- what a contract sees

pub makings_grown : (rows : List Row) (r : Row) → makings_of (rows ++ r ∷ []) ≡ makings_of rows ++ Some r.making ∷ []
makings_grown rows r = map-append (λ (x : Row). Some x.making) rows (r ∷ [])

pub makings_kept : (rows : List Row) (i : ℕ) (r d : Row) → r.making ≡ (slice_index_or rows i d).making → makings_of (slice_set rows i r) ≡ makings_of rows
makings_kept [] i r d e = refl
makings_kept (x ∷ rows) zero r d e = ap (λ (m : Making). Some m ∷ makings_of rows) e
makings_kept (x ∷ rows) (suc i) r d e = ap (λ (ms : List (Option Making)). Some x.making ∷ ms) (makings_kept rows i r d e)

pub makings_length : (rows : List Row) → length (makings_of rows) ≡ length rows
makings_length rows = simp length-map

pub making_of_row : (rows : List Row) (o : ℕ) → from_one (makings_of rows) o None ≡ making_in (row_of rows o)
making_of_row rows zero = refl
making_of_row [] (suc k) = refl
making_of_row (x ∷ rows) (suc zero) = refl
making_of_row (x ∷ rows) (suc (suc k)) = making_of_row rows (suc k)

pub released_of_row : (rows : List Row) (o : ℕ) → released_in rows o ≡ flag_in (row_of rows o)
released_of_row rows zero = refl
released_of_row [] (suc k) = refl
released_of_row (x ∷ rows) (suc zero) = refl
released_of_row (x ∷ rows) (suc (suc k)) = released_of_row rows (suc k)

pub row_none : (rows : List Row) (o : ℕ) → o ≡ 0 → row_of rows o ≡ None
row_none rows zero e = refl
row_none rows (suc k) e = absurd (omega (arith, e))

pub row_some : (rows : List Row) (o : ℕ) → 1 ≤ o → row_of rows o ≡ slice_get rows (o - 1)
row_some rows zero h = absurd (omega (arith, h))
row_some rows (suc k) h = let z : k ≡ suc k - 1 = omega arith in ap (slice_get rows) z
