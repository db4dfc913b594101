-- One row changed, in the list and in each column.
use Rattle.std.proofs.Common.{◌≡◌, ◌-◌, ◌<◌, ◌≤◌, length, arith, refl, sym, ◌∙◌, ap, ℕ, zero, suc, List, [], ◌∷◌, map, slice_set, slice_index_or, Option, Some, None}
use Rattle.com_model.specs.State.{changed, changed_from_one}
use Rattle.com_calls.specs.Rows.{RowView, changed_in, changed_row}

in_set : (f : RowView → RowView) (k : ℕ) (rows : List RowView) (d : RowView) → k < length rows → slice_set rows k (f (slice_index_or rows k d)) ≡ changed_in f k rows
in_set f k [] d h = refl
in_set f zero (r ∷ rs) d h = refl
in_set f (suc k) (r ∷ rs) d h = ap (λ (ys : List RowView). r ∷ ys) (in_set f k rs d (omega (arith, h)))

pub changed_at : (f : RowView → RowView) (call : ℕ) (rows : List RowView) (d : RowView) → 1 ≤ call → call ≤ length rows → changed_row f call rows ≡ slice_set rows (call - 1) (f (slice_index_or rows (call - 1) d))
changed_at f zero rows d low high = absurd (omega (arith, low))
changed_at f (suc k) rows d low high =
    let e : suc k - 1 ≡ k = omega arith in
    sym (ap (λ (n : ℕ). slice_set rows n (f (slice_index_or rows n d))) e ∙ in_set f k rows d (omega (arith, high)))

in_past : (f : RowView → RowView) (k : ℕ) (rows : List RowView) → length rows ≤ k → changed_in f k rows ≡ rows
in_past f k [] h = refl
in_past f zero (r ∷ rs) h = absurd (omega (arith, h))
in_past f (suc k) (r ∷ rs) h = ap (λ (ys : List RowView). r ∷ ys) (in_past f k rs (omega (arith, h)))

pub changed_past : (f : RowView → RowView) (call : ℕ) (rows : List RowView) → length rows < call → changed_row f call rows ≡ rows
changed_past f zero rows h = refl
changed_past f (suc k) rows h = in_past f k rows (omega (arith, h))

pub changed_none : (f : RowView → RowView) (call : ℕ) (rows : List RowView) → call ≡ 0 → changed_row f call rows ≡ rows
changed_none f zero rows h = refl
changed_none f (suc k) rows h = absurd (omega (arith, h))

column_in : {X : Type 0} (g : RowView → X) (f : RowView → RowView) (h : X → X) (k : ℕ) (d : X) (rows : List RowView) → ((r : RowView) → h (g r) ≡ g (f r)) → slice_set (map g rows) k (h (slice_index_or (map g rows) k d)) ≡ map g (changed_in f k rows)
column_in g f h k d [] p = refl
column_in g f h zero d (r ∷ rs) p = ap (λ (y : _). y ∷ map g rs) (p r)
column_in g f h (suc k) d (r ∷ rs) p = ap (λ (ys : List _). g r ∷ ys) (column_in g f h k d rs p)

kept_in : {X : Type 0} (g : RowView → X) (f : RowView → RowView) (k : ℕ) (rows : List RowView) → ((r : RowView) → g r ≡ g (f r)) → map g rows ≡ map g (changed_in f k rows)
kept_in g f k [] p = refl
kept_in g f zero (r ∷ rs) p = ap (λ (y : _). y ∷ map g rs) (p r)
kept_in g f (suc k) (r ∷ rs) p = ap (λ (ys : List _). g r ∷ ys) (kept_in g f k rs p)

-- A column after a row changed.
pub column : {X : Type 0} (g : RowView → X) (f : RowView → RowView) (x : Option (X → X)) (call : ℕ) (d : X) (rows : List RowView) → ((r : RowView) → changed x (g r) ≡ g (f r)) → changed_from_one x call d (map g rows) ≡ map g (changed_row f call rows)
column g f None zero d rows p = refl
column g f None (suc k) d rows p = kept_in g f k rows p
column g f (Some h) zero d rows p = refl
column g f (Some h) (suc k) d rows p = column_in g f h k d rows p
