use Rattle.std.proofs.Common.{◌≡◌, false}
use Rattle.com_keyed.specs.Indices.{reach}
use Rattle.com_keyed.proofs.Walking.{Walks}
use Rattle.com_stub.specs.CounterRows.{is_for, row_at}
use Rattle.com_stub.proofs.counters.find.Given as goal

abbrev pub invariant-loop-at : goal.invariant-loop-at
invariant-loop-at l = Walks l.chains.keys l.object (λ p. is_for l.object l.iface (row_at l.rows p) ≡ false) l.at

abbrev pub decreases-loop-at : goal.decreases-loop-at
decreases-loop-at l = reach l.at
