-- What a contract sees of the counters and of a `Stubs`.
use Rattle.std.specs.Prelude.{ℕ, ◌≡◌, ◌<◌, ◌^◌, List, if◌then◌else◌}
use Rattle.com_keyed.specs.Indices.{KeyList}
use Rattle.com_stub.specs.declared.counters.CounterRow.{CounterRow}
use Rattle.com_stub.specs.declared.StubRow.{StubRow}
use Rattle.com_stub.specs.CounterRows.{EachFirst, objects_of, sum_of, counter_of}
use Rattle.com_stub.specs.StubRows.{EachStubFirst, stub_objects, is_connected}

-- the counters, in the order of their opening, and how many more are sure to find memory
pub record CounterTable : Type 0 where
  pub rows : List CounterRow
  pub spare : ℕ

-- the rows are chained under the objects of the counters, there is one counter of each interface of an
-- object, and the sum of an object's counters has a number
pub record IsCounterTable (rows : List CounterRow) (chains : KeyList) : Type 0 where
  pub keyed : chains.keys ≡ objects_of rows
  pub first : EachFirst rows
  pub sums : (object : ℕ) → sum_of rows object < 2 ^ 64

-- the stubs, in the order of their enrolment, the counters, and how many more enrolments are sure to
-- find memory
pub record StubTable : Type 0 where
  pub stubs : List StubRow
  pub counters : List CounterRow
  pub spare : ℕ

-- the rows are chained under the objects of the stubs, and there is one stub of each
pub record IsStubTable (rows : List StubRow) (chains : KeyList) : Type 0 where
  pub keyed : chains.keys ≡ stub_objects rows
  pub first : EachStubFirst rows

-- the public references that the object's stub counts for an interface; a stub that is not connected
-- counts none
abbrev pub count_of : StubTable → ℕ → ℕ → ℕ
count_of table object iface =
    if is_connected table.stubs object then (counter_of table.counters object iface).count else 0

-- the same for all interfaces together
abbrev pub total_of : StubTable → ℕ → ℕ
total_of table object = if is_connected table.stubs object then sum_of table.counters object else 0
