use Rattle.std.proofs.Common.{◌≡◌, ◌+◌, ◌*◌, ◌≤◌}
use Rattle.com_keyed.specs.Indices.{reach}
use Rattle.com_keyed.proofs.Summing.{sum_from}
use Rattle.com_keyed.proofs.Walking.{Walks}
use Rattle.com_packets.specs.Sums.{normal_for}
use Rattle.com_packets.proofs.sum_normal.Given as goal

abbrev pub invariant-loop-latest : goal.invariant-loop-latest
invariant-loop-latest l = record {
  walks : Walks l.chains.keys l.object (λ p. Unit {0}) l.latest;
  summed : l.sum ≡ sum_from (normal_for l.object) l.slots.entries (reach l.latest);
  small : l.sum + reach l.latest * 4294967295 ≤ 4294967295 * 4294967295;
}

abbrev pub decreases-loop-latest : goal.decreases-loop-latest
decreases-loop-latest l = reach l.latest
