-- How the number of an object's holders among packets and cookies changes.
use Rattle.std.proofs.Common.{◌≡◌, ℕ, zero, suc, true, ◌+◌, ◌<◌, List, [], ◌∷◌, length, arith}
use Rattle.std.proofs.lemmas.Grind.{common_steps}
use Rattle.std.specs.Prelude.{sum_by, slice_set, slice_index_or}
use Rattle.com_refs_books.specs.Changes.{Books, packet, no_packet, packet_holds, held_outside, changed, Return, Join}
use Rattle.com_refs_books.specs.declared.keeps.Packet.{Packet}

inside : (ps : List Packet) (p : ℕ) → (slice_index_or ps p no_packet).outstanding ≡ true → p < length ps
inside ps p h = grind (arith, common_steps)

held-end : (x p : ℕ) (ps : List Packet) → (slice_index_or ps p no_packet).outstanding ≡ true → sum_by (packet_holds x) (slice_set ps p no_packet) + packet_holds x (slice_index_or ps p no_packet) ≡ sum_by (packet_holds x) ps
held-end x p [] h = grind (arith, common_steps, inside [] p h)
held-end x zero (q ∷ ps) h = grind (arith, common_steps)
held-end x (suc p) (q ∷ ps) h = grind (arith, common_steps, held-end x p ps h)

pub outside-end : (b : Books) (p x : ℕ) → (packet b p).outstanding ≡ true → held_outside (changed b (Return p)) x + packet_holds x (packet b p) ≡ held_outside b x
outside-end b zero x h = absurd (cc)
outside-end b (suc p) x h = omega (arith, held-end x p b.packets h)

pub outside-join : (b : Books) (a p x : ℕ) → (packet b p).outstanding ≡ true → held_outside (changed b (Join a p)) x + packet_holds x (packet b p) ≡ held_outside b x
outside-join b a zero x h = absurd (cc)
outside-join b a (suc p) x h = omega (arith, held-end x p b.packets h)
