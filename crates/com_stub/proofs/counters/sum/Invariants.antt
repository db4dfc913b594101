use Rattle.std.proofs.Common.{◌≡◌}
use Rattle.com_keyed.specs.Indices.{reach}
use Rattle.com_keyed.proofs.Walking.{Walks}
use Rattle.com_stub.proofs.Sums.{sum_from}
use Rattle.com_stub.proofs.counters.sum.Given as goal

abbrev pub invariant-loop-at : goal.invariant-loop-at
invariant-loop-at l = record {
  walks : Walks l.chains.keys l.object (λ p. Unit {0}) l.at;
  summed : l.sum ≡ sum_from l.rows l.object (reach l.at);
}

abbrev pub decreases-loop-at : goal.decreases-loop-at
decreases-loop-at l = reach l.at
