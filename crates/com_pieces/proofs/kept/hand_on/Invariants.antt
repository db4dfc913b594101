use Rattle.std.proofs.Common.{◌≡◌, ◌≤◌, ◌-◌, drop, length}
use Rattle.com_pieces.specs.Gathered.{with_kept}
use Rattle.com_pieces.proofs.kept.hand_on.Given as goal

abbrev pub invariant-pieces : goal.invariant-pieces
invariant-pieces g l = record {
  within : l.at ≤ length l.gathered;
  same : with_kept (g.K.Sink.held l.sink) (drop l.at l.gathered) ≡ with_kept (g.K.Sink.held l.initial.sink) (drop l.initial.at l.gathered);
  counts : g.K.Sink.faults_of l.initial.sink ≤ g.K.Sink.faults_of l.sink;
}

abbrev pub decreases-pieces : goal.decreases-pieces
decreases-pieces g l = length l.gathered - l.at
