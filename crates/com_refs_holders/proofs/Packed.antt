-- What a packet that ends takes from the sum of its object's interface.
use Rattle.std.proofs.Common.{◌≡◌, ℕ, true, eqb, cond, ◌&&◌, ◌+◌, ◌<◌, List, length, arith}
use Rattle.std.proofs.lemmas.Grind.{common_steps}
use Rattle.std.specs.Prelude.{slice_set, slice_index_or, sum_by}
use Rattle.com_refs_books.specs.Changes.{no_packet, packet_holds_of}
use Rattle.com_refs_books.specs.declared.keeps.Packet.{Packet}

inside : (ps : List Packet) (p : ℕ) → (slice_index_or ps p no_packet).outstanding ≡ true → p < length ps
inside ps p h = grind (arith, common_steps)

pub packet-sum-end : (k j p : ℕ) (ps : List Packet) → (slice_index_or ps p no_packet).outstanding ≡ true → sum_by (packet_holds_of k j) (slice_set ps p no_packet) + cond (eqb k (slice_index_or ps p no_packet).object && eqb j (slice_index_or ps p no_packet).iface) (slice_index_or ps p no_packet).refs 0 ≡ sum_by (packet_holds_of k j) ps
packet-sum-end k j p ps h = grind (arith, common_steps, inside ps p h, h)
