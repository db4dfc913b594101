use Rattle.std.proofs.Common.{◌≡◌, ℕ, ◌+◌, false}
use Rattle.com_keyed.specs.Indices.{reach}
use Rattle.com_keyed.proofs.Walking.{Walks}
use Rattle.com_stub.specs.StubRows.{is_connected, has_stub}
use Rattle.com_refs_holders.specs.Tables.{is_owned}
use Rattle.com_refs_holders.proofs.lives.end_all.Given as goal

abbrev pub invariant-loop-at : goal.invariant-loop-at
invariant-loop-at l = record {
  walks : Walks l.owners.keys l.apartment (λ p. is_connected l.stubs.stubs (p + 1) ≡ false) l.at;
  others : (x : ℕ) → is_owned l.owners.keys l.apartment x ≡ false → is_connected l.stubs.stubs x ≡ is_connected l.fn.stubs.stubs x;
  room : l.stubs.spare ≡ l.fn.stubs.spare;
  known : (x : ℕ) → has_stub l.stubs.stubs x ≡ has_stub l.fn.stubs.stubs x;
  counters : l.stubs.counters ≡ l.fn.stubs.counters;
}

abbrev pub decreases-loop-at : goal.decreases-loop-at
decreases-loop-at l = reach l.at
