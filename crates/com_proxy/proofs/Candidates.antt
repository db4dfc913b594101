-- The search for the lowest interface.
use Rattle.std.proofs.Common.{◌≡◌, ℕ, ◌<◌, ◌≤◌, List, length, arith}
use Rattle.std.specs.Prelude.{Option, None, Some, IsSomeAnd, IfSome}
use Rattle.com_proxy.specs.declared.ProxyRow.{ProxyRow}
use Rattle.com_proxy.specs.Rows.{row_at}

-- the row is of the apartment and the object, and has public references
pub record IsCandidate (apartment object : ℕ) (rows : List ProxyRow) (index : ℕ) : Type 0 where
  pub inside : index < length rows
  pub of_object : (row_at rows index).object ≡ object
  pub of_apartment : (row_at rows index).apartment ≡ apartment
  pub some : 0 < (row_at rows index).public

-- the lowest so far is not above the row, if that has public references of the apartment and the object
abbrev pub Bounds : ℕ → ℕ → List ProxyRow → Option ℕ → ℕ → Type 0
Bounds apartment object rows lowest index = (row_at rows index).object ≡ object → (row_at rows index).apartment ≡ apartment → 0 < (row_at rows index).public → IsSomeAnd lowest (λ best. (row_at rows best).iface ≤ (row_at rows index).iface)

-- what a former choice bounds, a lower index bounds too
pub bounds_lower : (a o : ℕ) (rs : List ProxyRow) (best : Option ℕ) (index : ℕ) → IfSome best (λ b. (row_at rs index).iface < (row_at rs b).iface) → (q : ℕ) → Bounds a o rs best q → Bounds a o rs (Some index) q
bounds_lower a o rs None index lower q bound eo ea some = absurd (bound eo ea some)
bounds_lower a o rs (Some best) index lower q bound eo ea some = let h : (row_at rs best).iface ≤ (row_at rs q).iface = bound eo ea some in omega arith

-- a choice bounds an index that is not lower
pub bounds_here : (a o : ℕ) (rs : List ProxyRow) (best : Option ℕ) (index : ℕ) → (IfSome best (λ b. (row_at rs index).iface < (row_at rs b).iface) → ⊥) → Bounds a o rs best index
bounds_here a o rs None index higher eo ea some = absurd (higher tt)
bounds_here a o rs (Some best) index higher eo ea some = omega arith
