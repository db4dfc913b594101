-- What is written of a packet, and which packet it names.
use Rattle.std.specs.Prelude.{ℕ, ◌≡◌, ◌%◌, ◌^◌, ◌==◌, if◌then◌else◌, List, Option, Some, None, IsSomeAnd, map}
use Rattle.std.specs.Int.{to_le_bytes, w64}
use Rattle.com_base.specs.declared.guid.Guid.{Guid}
use Rattle.com_base.specs.declared.standard.StdFields.{StdFields}
use Rattle.com_base.specs.declared.value.MarshalMode.{MarshalMode}
use Rattle.com_base.specs.declared.value.MarshalMode.TheVariants.{Normal, Strong, Weak}
use Rattle.com_slots.specs.Table.{held_in}
use Rattle.com_packets.specs.declared.Packet.{Packet}

-- the public references that the packet says that it carries
abbrev pub written_refs : MarshalMode → ℕ → ℕ
written_refs Normal refs = refs
written_refs Strong refs = 0
written_refs Weak refs = 0

-- the interface pointer: the object, the interface, the low 16 bits of the owner, and the packet's number
abbrev pub written_ipid : Packet → ℕ → Guid
written_ipid packet number =
    record {
      data1 = packet.object;
      data2 = packet.iface;
      data3 = packet.owner % 2 ^ 16;
      data4 = to_le_bytes w64 number;
    }

-- the fields that are written of a packet with a number, where its interface has this identifier
abbrev pub written_fields : Packet → ℕ → Guid → StdFields
written_fields packet number iid = record {
  iid = iid;
  refs = written_refs packet.mode packet.refs;
  oxid = packet.owner;
  oid = packet.object;
  ipid = written_ipid packet number;
}

-- the fields are those of the outstanding packet with this number, and the packet is of the interface
abbrev pub IsNamed : List (Option Packet) → StdFields → ℕ → ℕ → Type 0
IsNamed entries fields iface number =
    IsSomeAnd (held_in entries number)
    (λ packet. (packet.iface ≡ iface) × (written_fields packet number fields.iid ≡ fields))

-- the packet, where it is of another object
abbrev pub kept_of : ℕ → Packet → Option Packet
kept_of object packet = if packet.object == object then None else Some packet

abbrev pub kept : ℕ → Option Packet → Option Packet
kept object None = None
kept object (Some packet) = kept_of object packet

-- the entries once all packets of an object have ended
abbrev pub cut_entries : ℕ → List (Option Packet) → List (Option Packet)
cut_entries object entries = map (kept object) entries
