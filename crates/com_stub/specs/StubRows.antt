-- The rows of the stubs: whether an object has a stub, and whether that is connected.
use Rattle.std.specs.Prelude.{ℕ, ◌≡◌, ◌+◌, ◌<◌, Bool, false, ◌==◌, ◌||◌, if◌then◌else◌, List, [], ◌∷◌, map}
use Rattle.std.specs.Prelude.{length, slice_index_or}
use Rattle.com_stub.specs.declared.StubRow.{StubRow}

abbrev pub no_stub : ℕ → StubRow
no_stub object = record { object = object; is_connected = false }

-- there is a row of the object, whether its stub is connected or not
abbrev pub has_stub : List StubRow → ℕ → Bool
has_stub [] object = false
has_stub (row ∷ rows) object = (row.object == object) || has_stub rows object

-- the first row of an object; one that is not there is not connected
abbrev pub stub_of : List StubRow → ℕ → StubRow
stub_of [] object = no_stub object
stub_of (row ∷ rows) object = if row.object == object then row else stub_of rows object

-- the object has a stub, and that is connected
abbrev pub is_connected : List StubRow → ℕ → Bool
is_connected rows object = (stub_of rows object).is_connected

-- where that row stands, or the number of rows
abbrev pub stub_index : List StubRow → ℕ → ℕ
stub_index [] object = 0
stub_index (row ∷ rows) object = if row.object == object then 0 else stub_index rows object + 1

-- the row is no longer connected, if it is of the object
abbrev pub ended_row : ℕ → StubRow → StubRow
ended_row object row = if row.object == object then record row { is_connected = false } else row

-- the stub of the object is no longer connected, and those of the others are as before
abbrev pub ended_rows : ℕ → List StubRow → List StubRow
ended_rows object rows = map (ended_row object) rows

abbrev pub stub_objects : List StubRow → List ℕ
stub_objects rows = map (λ row. row.object) rows

abbrev pub stub_at : List StubRow → ℕ → StubRow
stub_at rows index = slice_index_or rows index (no_stub 0)

-- no two rows are of one object: each is the first of its own
abbrev pub EachStubFirst : List StubRow → Type 0
EachStubFirst rows = (index : ℕ) → index < length rows → stub_index rows (stub_at rows index).object ≡ index
