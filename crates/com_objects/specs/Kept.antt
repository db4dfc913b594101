-- What is kept of objects beside what contracts see.
use Rattle.std.specs.Prelude.{◌≡◌, ℕ, ◌<◌, ◌≤◌, ◌^◌, zero, suc, Bool, false, List, length, map, Option, Some}
use Rattle.std.specs.Prelude.{None, slice_get}
use Rattle.com_model.specs.declared.keeps.Making.{Making}
use Rattle.com_model.specs.Lists.{from_one, is_member}
use Rattle.com_state.specs.Parts.{ObjectTables}
use Rattle.com_objects.specs.declared.objects.Row.{Row}

abbrev pub unmade : Row
unmade = record { making = record { object = 0; apartment = 0; class = 0 }; is_released = false }

abbrev pub makings_of : List Row → List (Option Making)
makings_of rows = map (λ (r : Row). Some r.making) rows

abbrev pub tables_of : List Row → (finaled : List ℕ) → ObjectTables
tables_of rows finaled = record { makings = makings_of rows; finaled = finaled }

abbrev pub released_in : List Row → ℕ → Bool
released_in rows o = (from_one rows o unmade).is_released

-- The row of a number, what it says of the making, and whether it says that the object was released.
abbrev pub row_of : List Row → ℕ → Option Row
row_of rows zero = None
row_of rows (suc k) = slice_get rows k

abbrev pub making_in : Option Row → Option Making
making_in None = None
making_in (Some r) = Some r.making

abbrev pub flag_in : Option Row → Bool
flag_in None = false
flag_in (Some r) = r.is_released

pub record ObjectsKept (rows : List Row) (finaled : List ℕ) : Type 0 where
  pub released : (o : ℕ) → is_member o finaled ≡ released_in rows o
  pub numbered : length rows < 2 ^ 32

-- The number, if there is one, is that of one of so many objects.
abbrev pub IsMade : ℕ → Option ℕ → Type 0
IsMade n None = Unit {0}
IsMade n (Some o) = (1 ≤ o) × (o ≤ n)
