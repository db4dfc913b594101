use Rattle.std.proofs.Common.{◌≡◌, ℕ, length}
use Rattle.std.specs.Prelude.{slice_index, None}
use Rattle.com_keyed.specs.Indices.{reach}
use Rattle.com_keyed.proofs.Walking.{Walks}
use Rattle.com_packets.specs.Table.{entry_at}
use Rattle.com_packets.proofs.end_all.Given as goal

abbrev pub invariant-loop-at : goal.invariant-loop-at
invariant-loop-at l = record {
  walks : Walks l.chains.keys l.object (λ p. entry_at l.slots.entries p ≡ None) l.at;
  as_many : length l.slots.entries ≡ length l.fn.slots.entries;
  others : (p : ℕ) → (slice_index l.chains.keys p ≡ l.object → ⊥) → entry_at l.slots.entries p ≡ entry_at l.fn.slots.entries p;
  limit : l.slots.limit ≡ l.fn.slots.limit;
  spare : l.slots.spare ≡ l.fn.slots.spare;
}

abbrev pub decreases-loop-at : goal.decreases-loop-at
decreases-loop-at l = reach l.at
