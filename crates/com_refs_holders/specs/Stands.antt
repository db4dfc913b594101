-- What is true of the tables at all times.
use Rattle.std.specs.Prelude.{◌≡◌, ℕ, ◌+◌, ◌-◌, ◌*◌, ◌<◌, ◌≤◌, Bool, true, false, ◌==◌, ◌&&◌, if◌then◌else◌}
use Rattle.std.specs.Prelude.{List, length, sum_by, Some}
use Rattle.com_base.specs.declared.limits.TheConstants.{PUBLIC_REFERENCES}
use Rattle.com_base.specs.declared.value.RefValue.{RefValue}
use Rattle.com_keyed.specs.Indices.{KeyList}
use Rattle.com_packets.specs.declared.Packet as P
use Rattle.com_proxy.specs.declared.ProxyRow.{ProxyRow}
use Rattle.com_proxy.specs.Rows.{public_of, local_of, IsFree}
use Rattle.com_slots.specs.Table.{held_in}
use Rattle.com_stub.specs.declared.counters.CounterRow.{CounterRow}
use Rattle.com_stub.specs.CounterRows.{counter_of, has_counter, sum_of}
use Rattle.com_stub.specs.StubRows.{has_stub}
use Rattle.com_refs_books.specs.Counting.{count_if}
use Rattle.com_refs_books.specs.Changes.{Books}
use Rattle.com_refs_books.specs.Evens.{Even}
use Rattle.com_refs_holders.specs.Tables.{Tables, books_of, owns_of, owners_of, direct_in}
use Rattle.com_refs_holders.specs.Places.{locals_of, places_of, has_row, distinct}

-- Each stub counts what is held, over so many apartments.
pub record IsEven (b : Books) : Type 0 where
  pub apartments : ℕ
  pub even : Even apartments b

-- Whatever is mentioned is an interface in the set of an object that was made.
pub record Known (t : Tables) : Type 0 where
  pub stubs : (o : ℕ) → has_stub t.stubs o ≡ true → o ≤ length t.objects
  pub counters : (o i : ℕ) → has_counter t.counters o i ≡ true → (0 < o) × (o ≤ length t.objects)
  pub proxies : (a o i : ℕ) → has_row t.proxies a o i ≡ true → has_counter t.counters o i ≡ true
  pub packets : (n : ℕ) (p : P.Packet) → held_in t.packets n ≡ Some p
      → has_counter t.counters p.object p.iface ≡ true
  pub cookies : (n : ℕ) (r : RefValue) → held_in t.cookies n ≡ Some r
      → has_counter t.counters r.object r.iface ≡ true

-- No number is higher than the references that were given, of which each call gives `PUBLIC_REFERENCES` at most.
pub record Bounded (t : Tables) : Type 0 where
  pub sums : (o : ℕ) → sum_of t.counters o ≤ PUBLIC_REFERENCES * t.issued
  pub locals : (o : ℕ) → locals_of o t.proxies ≤ t.issued
  pub direct : (o : ℕ) → direct_in t o ≤ t.issued
  pub packets : length t.packets ≤ t.issued
  pub cookies : length t.cookies ≤ t.issued
  pub objects : length t.objects ≤ t.issued

pub record IsHolders (t : Tables) : Type 0 where
  pub even : IsEven (books_of t)
  -- a proxy without place holds nothing
  pub placed : (a o i : ℕ) → IsFree t.proxies a o → (books_of t).proxy a o i ≡ 0
  -- an owner has no proxy
  pub owned : (a o i : ℕ) → owns_of t.objects o a ≡ true → local_of t.proxies a o i ≡ 0
  pub known : Known t
  pub bounded : Bounded t
  pub apart : distinct t.proxies ≡ true

-- The owners stand under their objects, and each table has room for as many calls as are sure to find memory.
pub record IsWhole (t : Tables) (owners : KeyList) (objects stubs proxies packets cookies : ℕ) : Type 0 where
  pub stands : IsHolders t
  pub keyed : owners.keys ≡ owners_of t.objects
  pub object_room : t.spare ≤ objects
  pub owner_room : t.spare ≤ owners.spare
  pub stub_room : t.spare ≤ stubs
  pub proxy_room : t.spare ≤ proxies
  pub packet_room : t.spare ≤ packets
  pub cookie_room : t.spare ≤ cookies

-- The places are those that the tables count.
pub record Tells (n : ℕ) (places : ℕ → ℕ → ℕ) (t : Tables) : Type 0 where
  pub none : (a o : ℕ) → owns_of t.objects o a ≡ false → places a o ≡ 0 → IsFree t.proxies a o
  pub some : (a o : ℕ) → a < n → owns_of t.objects o a ≡ false → IsFree t.proxies a o → places a o ≡ 0

-- A proxy that gave everything back, where `gave`.
pub record Gave (a o : ℕ) (gave : Bool) (before : List ProxyRow) (counted : List CounterRow)
    (after : List ProxyRow) (counts : List CounterRow) : Type 0 where
  pub rows : (c x j : ℕ) → has_row after c x j ≡ has_row before c x j
  pub apart : distinct before ≡ true → distinct after ≡ true
  pub has : (x j : ℕ) → has_counter counts x j ≡ has_counter counted x j
  pub sums : (x : ℕ) → sum_of counts x ≤ sum_of counted x
  pub local : (c x j : ℕ) → local_of after c x j ≡ local_of before c x j
  pub places : (c x : ℕ) → places_of c x after ≡ places_of c x before
  pub locals : (x : ℕ) → locals_of x after ≡ locals_of x before
  pub public : (c x j : ℕ)
      → public_of after c x j ≡ (if (c == a && x == o) && gave then 0 else public_of before c x j)
  pub count : (x j : ℕ)
      → (counter_of counts x j).count
      ≡ (counter_of counted x j).count - (if x == o && gave then public_of before a o j else 0)

-- One local reference less, and all given back where `gave`.
pub record Released (a o i : ℕ) (gave : Bool) (before : List ProxyRow) (counted : List CounterRow)
    (after : List ProxyRow) (counts : List CounterRow) : Type 0 where
  pub rows : (c x j : ℕ) → has_row after c x j ≡ has_row before c x j
  pub apart : distinct before ≡ true → distinct after ≡ true
  pub has : (x j : ℕ) → has_counter counts x j ≡ has_counter counted x j
  pub sums : (x : ℕ) → sum_of counts x ≤ sum_of counted x
  pub local : (c x j : ℕ)
      → local_of after c x j ≡ local_of before c x j - count_if (c == a && (x == o && j == i))
  pub places : (c x : ℕ) → places_of c x after + count_if (c == a && x == o) ≡ places_of c x before
  pub locals : (x : ℕ) → locals_of x after + count_if (x == o) ≡ locals_of x before
  pub public : (c x j : ℕ)
      → public_of after c x j ≡ (if (c == a && x == o) && gave then 0 else public_of before c x j)
  pub count : (x j : ℕ)
      → (counter_of counts x j).count
      ≡ (counter_of counted x j).count - (if x == o && gave then public_of before a o j else 0)

-- so many public references of an apartment and an object
abbrev pub public_for : (a o : ℕ) → ProxyRow → ℕ
public_for a o row = if row.object == o && row.apartment == a then row.public else 0

abbrev pub publics : (a o : ℕ) → List ProxyRow → ℕ
publics a o rows = sum_by (public_for a o) rows

-- On the way of giving back.
pub record Giving (a o : ℕ) (before : List ProxyRow) (counted : List CounterRow) (after : List ProxyRow)
    (counts : List CounterRow) : Type 0 where
  pub rows : (c x j : ℕ) → has_row after c x j ≡ has_row before c x j
  pub apart : distinct before ≡ true → distinct after ≡ true
  pub has : (x j : ℕ) → has_counter counts x j ≡ has_counter counted x j
  pub sums : (x : ℕ) → sum_of counts x ≤ sum_of counted x
  pub local : (c x j : ℕ) → local_of after c x j ≡ local_of before c x j
  pub places : (c x : ℕ) → places_of c x after ≡ places_of c x before
  pub locals : (x : ℕ) → locals_of x after ≡ locals_of x before
  pub public : (c x j : ℕ) → (c == a && x == o) ≡ false → public_of after c x j ≡ public_of before c x j
  pub balance : (j : ℕ) → (counter_of counts o j).count + public_of before a o j
      ≡ (counter_of counted o j).count + public_of after a o j
  pub within : (j : ℕ) → public_of after a o j ≤ (counter_of counts o j).count
  pub count : (x j : ℕ) → (x == o) ≡ false → (counter_of counts x j).count ≡ (counter_of counted x j).count
