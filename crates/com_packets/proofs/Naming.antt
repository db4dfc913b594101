-- The fields of a packet have its number.
use Rattle.std.proofs.Common.{◌≡◌, ℕ, ◌<◌, ◌^◌, List, sym, ◌∙◌, ap, arith}
use Rattle.std.specs.Prelude.{Option, None, Some, IsSomeAnd}
use Rattle.std.specs.Int.{from_le_bytes, w64}
use Rattle.std.proofs.lemmas.Nat.{from_le_bytes-to_le_bytes_8}
use Rattle.com_base.specs.declared.standard.StdFields.{StdFields}
use Rattle.com_slots.specs.Table.{held_in}
use Rattle.com_packets.specs.declared.Packet.{Packet}
use Rattle.com_packets.specs.Written.{IsNamed, written_fields}

pub named_number : (entries : List (Option Packet)) (fields : StdFields) (iface number : ℕ) → number < 2 ^ 32 → IsNamed entries fields iface number → from_le_bytes w64 fields.ipid.data4 ≡ number
named_number entries fields iface number h named =
    (elim (held_in entries number) as (λ held. IsSomeAnd held (λ packet. (packet.iface ≡ iface) × (written_fields packet number fields.iid ≡ fields)) → from_le_bytes w64 fields.ipid.data4 ≡ number) [
      | None ↦ λ none. absurd none
      | Some packet ↦ λ both. sym (ap (λ (f : StdFields). from_le_bytes w64 f.ipid.data4) both.1) ∙ from_le_bytes-to_le_bytes_8 number (omega arith)
    ]) named
