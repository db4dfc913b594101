use Rattle.std.proofs.Common.{◌≤◌, length}
use Rattle.com_io.proofs.Passing.{GainsBefore}
use Rattle.com_io.proofs.whole.write_all.Given as goal

abbrev pub invariant-pieces : goal.invariant-pieces
invariant-pieces g l = record {
  passed : GainsBefore (g.K.Sink.held l.initial.sink) (g.K.Sink.held l.sink) l.bytes l.rest;
  counts : g.K.Sink.faults_of l.initial.sink ≤ g.K.Sink.faults_of l.sink;
}

abbrev pub decreases-pieces : goal.decreases-pieces
decreases-pieces g l = length l.rest
