-- What contracts see of a `Holders`, and its reading as books.
use Rattle.std.specs.Prelude.{◌≡◌, ℕ, zero, suc, ◌+◌, ◌-◌, Bool, true, false, ◌==◌, ◌&&◌, ◌||◌, if◌then◌else◌}
use Rattle.std.specs.Prelude.{List, [], map, length, nat_lt, nat_le, slice_index, Option, Some, None, slice_index_or}
use Rattle.com_base.specs.declared.value.RefValue.{RefValue}
use Rattle.com_packets.specs.declared.Packet as P
use Rattle.com_proxy.specs.declared.ProxyRow.{ProxyRow}
use Rattle.com_proxy.specs.Rows.{public_of}
use Rattle.com_slots.specs.Table.{held_in}
use Rattle.com_stub.specs.declared.StubRow.{StubRow}
use Rattle.com_stub.specs.declared.counters.CounterRow.{CounterRow}
use Rattle.com_stub.specs.StubRows.{is_connected}
use Rattle.com_stub.specs.CounterRows.{counter_of, has_counter}
use Rattle.com_refs_holders.specs.declared.ObjectRow.{ObjectRow}
use Rattle.com_refs_books.specs.Changes.{Books, no_packet, no_cookie, set_from_one}
use Rattle.com_refs_books.specs.declared.keeps.Packet.{Packet}
use Rattle.com_refs_books.specs.declared.keeps.Cookie.{Cookie}

-- Objects, packets and cookies from number 1 on; how many references were given so far; and how many calls
-- are sure to find memory.
pub record Tables : Type 0 where
  pub objects : List ObjectRow
  pub stubs : List StubRow
  pub counters : List CounterRow
  pub proxies : List ProxyRow
  pub packets : List (Option P.Packet)
  pub cookies : List (Option RefValue)
  pub issued : ℕ
  pub spare : ℕ

abbrev pub tables : List ObjectRow → List StubRow → List CounterRow → List ProxyRow → List (Option P.Packet)
    → List (Option RefValue) → (issued spare : ℕ) → Tables
tables objects stubs counters proxies packets cookies issued spare = record {
  objects = objects;
  stubs = stubs;
  counters = counters;
  proxies = proxies;
  packets = packets;
  cookies = cookies;
  issued = issued;
  spare = spare;
}

-- The row that is read for a number that no object has.
abbrev pub no_object : ObjectRow
no_object = record { owner = 0; agile = false; direct = 0 }

-- The row of the object with a number, from 1.
abbrev pub object_in : List ObjectRow → ℕ → ObjectRow
object_in rows zero = no_object
object_in rows (suc place) = slice_index_or rows place no_object

-- The object was made: objects are numbered from 1 on, in the order in which they are made.
abbrev pub is_made : List ObjectRow → ℕ → Bool
is_made rows o = nat_lt 0 o && nat_le o (length rows)

-- An object as it was made: its owner, and whether every apartment owns it.
abbrev pub made_in : List ObjectRow → ℕ → ObjectRow
made_in rows o = record (object_in rows o) { direct = 0 }

-- The owner of an object that was made; 0 of one that every apartment owns.
abbrev pub owner_in : List ObjectRow → ℕ → Option ℕ
owner_in rows o = if is_made rows o then Some (object_in rows o).owner else None

-- The direct places of an object: those in apartments that own it.
abbrev pub direct_in : Tables → ℕ → ℕ
direct_in t o = (object_in t.objects o).direct

abbrev pub direct_less : ℕ → List ObjectRow → List ObjectRow
direct_less o rows =
    set_from_one rows o (record (object_in rows o) { direct = (object_in rows o).direct - 1 })

abbrev pub direct_more : ℕ → List ObjectRow → List ObjectRow
direct_more o rows =
    set_from_one rows o (record (object_in rows o) { direct = (object_in rows o).direct + 1 })

-- The apartment owns the object: every apartment owns an agile one.
unfoldable pub owns_of : List ObjectRow → ℕ → ℕ → Bool
owns_of rows o a = (object_in rows o).agile || (object_in rows o).owner == a

-- The owner of each object.
abbrev pub owners_of : List ObjectRow → List ℕ
owners_of rows = map (λ row. row.owner) rows

-- The interface is in the object's set.
abbrev pub offers : Tables → (object iface : ℕ) → Bool
offers t o i = has_counter t.counters o i

-- Each object has the interfaces that it had.
abbrev pub SameSets : Tables → Tables → Type 0
SameSets t u = (x j : ℕ) → offers u x j ≡ offers t x j

-- What is not connected reads as nothing.
abbrev pub packet_read : (ℕ → Bool) → Option P.Packet → Packet
packet_read live None = no_packet
packet_read live (Some p) =
    if live p.object
    then record { outstanding = true; mode = p.mode; object = p.object; iface = p.iface; refs = p.refs }
    else no_packet

-- A cookie as the books have it: 1 public reference where its object is connected, else 0. None reads as a cookie
-- that is revoked.
abbrev pub cookie_read : (ℕ → Bool) → Option RefValue → Cookie
cookie_read live None = no_cookie
cookie_read live (Some r) =
    record { is_revoked = false; object = r.object; iface = r.iface; refs = if live r.object then 1 else 0 }

-- The books that rows stand for where just the `live` objects are connected: nobody has a public reference of
-- another object.
abbrev pub books_by : (live : ℕ → Bool) → List CounterRow → List ProxyRow → List (Option P.Packet)
    → List (Option RefValue) → Books
books_by live counters proxies packets cookies = record {
  stub = λ o i. if live o then (counter_of counters o i).count else 0;
  proxy = λ a o i. if live o then public_of proxies a o i else 0;
  packets = map (packet_read live) packets;
  cookies = map (cookie_read live) cookies;
  live = live;
  arguments = λ c. [];
  result = λ c. None;
}

-- The books that the tables stand for. Which packets carry a call's arguments or result, the tables do not
-- keep.
unfoldable pub books_of : Tables → Books
books_of t = books_by (is_connected t.stubs) t.counters t.proxies t.packets t.cookies

-- The packet of a number, if it is outstanding.
abbrev pub live_packet : (ℕ → Bool) → Option P.Packet → Option P.Packet
live_packet live None = None
live_packet live (Some p) = if live p.object then Some p else None

-- The packet with a number, from 1, while its object is connected. None where the entry is empty or there is none.
unfoldable pub outstanding_in : (ℕ → Bool) → List (Option P.Packet) → ℕ → Option P.Packet
outstanding_in live entries number = live_packet live (held_in entries number)

-- The object is one of those whose owners these are, and its owner is the apartment.
abbrev pub is_owned : List ℕ → ℕ → ℕ → Bool
is_owned owners a zero = false
is_owned owners a (suc place) = nat_lt place (length owners) && slice_index owners place == a
