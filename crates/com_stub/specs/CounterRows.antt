-- The rows of the counters: the public references of each interface of each object.
use Rattle.std.specs.Prelude.{ℕ, ◌≡◌, ◌+◌, ◌-◌, ◌<◌, Bool, false, ◌==◌, ◌&&◌, ◌||◌, if◌then◌else◌, List, []}
use Rattle.std.specs.Prelude.{◌∷◌, ◌++◌, map, sum_by, length, slice_index_or}
use Rattle.com_stub.specs.declared.counters.CounterRow.{CounterRow}

-- the row is that of an object and an interface
abbrev pub is_for : ℕ → ℕ → CounterRow → Bool
is_for object iface row = (row.object == object) && (row.iface == iface)

-- a row of an object and an interface that counts no reference
abbrev pub no_counter : ℕ → ℕ → CounterRow
no_counter object iface = record { object = object; iface = iface; count = 0 }

-- there is a counter of the interface: it is in the object's set
abbrev pub has_counter : List CounterRow → ℕ → ℕ → Bool
has_counter [] object iface = false
has_counter (row ∷ rows) object iface = is_for object iface row || has_counter rows object iface

-- the first row of an object and an interface; one that is not there counts 0
abbrev pub counter_of : List CounterRow → ℕ → ℕ → CounterRow
counter_of [] object iface = no_counter object iface
counter_of (row ∷ rows) object iface = if is_for object iface row then row else counter_of rows object iface

-- where that row stands, or the number of rows
abbrev pub index_of : List CounterRow → ℕ → ℕ → ℕ
index_of [] object iface = 0
index_of (row ∷ rows) object iface = if is_for object iface row then 0 else index_of rows object iface + 1

-- that row changed, if it is there
abbrev pub changed_counter : (CounterRow → CounterRow) → ℕ → ℕ → List CounterRow → List CounterRow
changed_counter change object iface [] = []
changed_counter change object iface (row ∷ rows) =
    if is_for object iface row then change row ∷ rows else row ∷ changed_counter change object iface rows

-- so many references more, and less
abbrev pub more : ℕ → CounterRow → CounterRow
more n row = record row { count = row.count + n }

-- so many references less, and none where there are not so many
abbrev pub less : ℕ → CounterRow → CounterRow
less n row = record row { count = row.count - n }

-- a counter of the interface at the end, where there is none yet
abbrev pub opened : ℕ → ℕ → List CounterRow → List CounterRow
opened object iface rows =
    if has_counter rows object iface then rows else rows ++ no_counter object iface ∷ []

-- a counter of each interface of the set, in its order
abbrev pub opened_all : ℕ → List ℕ → List CounterRow → List CounterRow
opened_all object [] rows = rows
opened_all object (iface ∷ set) rows = opened_all object set (opened object iface rows)

-- what the row adds to the sum of an object
abbrev pub count_for : ℕ → CounterRow → ℕ
count_for object row = if row.object == object then row.count else 0

-- the sum over all interfaces of an object
abbrev pub sum_of : List CounterRow → ℕ → ℕ
sum_of rows object = sum_by (count_for object) rows

abbrev pub objects_of : List CounterRow → List ℕ
objects_of rows = map (λ row. row.object) rows

-- the row at an index
abbrev pub row_at : List CounterRow → ℕ → CounterRow
row_at rows index = slice_index_or rows index (no_counter 0 0)

-- no two rows are of the same object and interface: each is the first of its own
abbrev pub EachFirst : List CounterRow → Type 0
EachFirst rows =
    (index : ℕ) → index < length rows → index_of rows (row_at rows index).object (row_at rows index).iface
    ≡ index
