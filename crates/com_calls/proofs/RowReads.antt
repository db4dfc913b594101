-- What readers find in the row of a call.
use Rattle.std.proofs.Common.{◌≡◌, ◌∙◌, ◌≤◌, ◌<◌, ◌-◌, refl, sym, ap, arith, length, ℕ, zero, suc, List, [], ◌∷◌, map, slice_index_or, slice_get, Option, Some, None}
use Rattle.com_model.specs.Lists.{from_one}
use Rattle.com_calls.specs.Rows.{RowView, row_at}

abbrev pub read_or : {X : Type 0} → (RowView → X) → X → Option RowView → X
read_or g d None = d
read_or g d (Some r) = g r

read-in : {X : Type 0} (g : RowView → X) (rows : List RowView) (k : ℕ) (d : X) → slice_index_or (map g rows) k d ≡ read_or g d (slice_get rows k)
read-in g [] k d = refl
read-in g (r ∷ rs) zero d = refl
read-in g (r ∷ rs) (suc k) d = read-in g rs k d

pub read : {X : Type 0} (g : RowView → X) (rows : List RowView) (call : ℕ) (d : X) → from_one (map g rows) call d ≡ read_or g d (row_at rows call)
read g rows zero d = refl
read g rows (suc k) d = read-in g rows k d

place-in : {X : Type 0} (g : RowView → X) (rows : List RowView) (k : ℕ) (d : RowView) (e : X) → k < length rows → slice_index_or (map g rows) k e ≡ g (slice_index_or rows k d)
place-in g [] k d e h = absurd (omega (arith, h))
place-in g (r ∷ rs) zero d e h = refl
place-in g (r ∷ rs) (suc k) d e h = place-in g rs k d e (omega (arith, h))

pub read_place : {X : Type 0} (g : RowView → X) (rows : List RowView) (call : ℕ) (d : RowView) (e : X) → 1 ≤ call → call ≤ length rows → from_one (map g rows) call e ≡ g (slice_index_or rows (call - 1) d)
read_place g rows zero d e low high = absurd (omega (arith, low))
read_place g rows (suc k) d e low high =
    let z : suc k - 1 ≡ k = omega arith in
    place-in g rows k d e (omega (arith, high)) ∙ sym (ap (λ (n : ℕ). g (slice_index_or rows n d)) z)

past-in : {X : Type 0} (g : RowView → X) (rows : List RowView) (k : ℕ) (e : X) → length rows ≤ k → slice_index_or (map g rows) k e ≡ e
past-in g [] k e h = refl
past-in g (r ∷ rs) zero e h = absurd (omega (arith, h))
past-in g (r ∷ rs) (suc k) e h = past-in g rs k e (omega (arith, h))

pub read_past : {X : Type 0} (g : RowView → X) (rows : List RowView) (call : ℕ) (e : X) → length rows < call → from_one (map g rows) call e ≡ e
read_past g rows zero e h = refl
read_past g rows (suc k) e h = past-in g rows k e (omega (arith, h))

pub read_none : {X : Type 0} (g : RowView → X) (rows : List RowView) (call : ℕ) (e : X) → call ≡ 0 → from_one (map g rows) call e ≡ e
read_none g rows zero e h = refl
read_none g rows (suc k) e h = absurd (omega (arith, h))
