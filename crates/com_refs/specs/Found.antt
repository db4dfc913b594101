-- Which packet bytes name, by the books and by the owner of each object.
use Rattle.std.specs.Prelude.{ℕ, ◌≡◌, ◌%◌, ◌^◌, true, Option, Some, None}
use Rattle.std.specs.Int.{to_le_bytes, w64}
use Rattle.com_base.specs.declared.guid.Guid.{Guid}
use Rattle.com_base.specs.declared.standard.StdFields.{StdFields}
use Rattle.com_base.specs.declared.value.MarshalMode.{MarshalMode}
use Rattle.com_base.specs.declared.value.MarshalMode.TheVariants as marshal
use Rattle.com_refs_books.specs.Changes.{packet, no_packet}
use Rattle.com_refs_books.specs.declared.keeps.Packet.{Packet}
use Rattle.com_packets.specs.declared.Packet as P
use Rattle.com_refs_holders.specs.Tables.{Tables, books_of, object_in}

-- The row of a packet in the books.
abbrev pub shown_packet : Option P.Packet → Packet
shown_packet None = no_packet
shown_packet (Some p) =
    record { outstanding = true; mode = p.mode; object = p.object; iface = p.iface; refs = p.refs }

-- The public references that a packet says that it carries.
abbrev pub refs_written : MarshalMode → ℕ → ℕ
refs_written marshal.Normal n = n
refs_written _ n = 0

-- The fields that are written of a packet with this number, whose object has this owner and whose interface
-- has this identifier.
abbrev pub fields_by : (owner : ℕ) → Guid → Packet → ℕ → StdFields
fields_by a iid k n = record {
  iid = iid;
  refs = refs_written k.mode k.refs;
  oxid = a;
  oid = k.object;
  ipid = record { data1 = k.object; data2 = k.iface; data3 = a % 2 ^ 16; data4 = to_le_bytes w64 n };
}

-- The fields of the packet of a number.
abbrev pub fields_in : Tables → Guid → ℕ → StdFields
fields_in t iid n =
    fields_by (object_in t.objects (packet (books_of t) n).object).owner iid (packet (books_of t) n) n

-- The fields are those of the packet with this number, which is outstanding and of the interface.
pub record IsFound (t : Tables) (fields : StdFields) (iface n : ℕ) : Type 0 where
  pub outstanding : (packet (books_of t) n).outstanding ≡ true
  pub of_iface : (packet (books_of t) n).iface ≡ iface
  pub written : fields_in t fields.iid n ≡ fields
