use Rattle.std.proofs.Common.{◌≤◌, ◌<◌, ◌-◌, length, vec_len}
use Rattle.com_io.specs.Told.{Loses}
use Rattle.com_io.proofs.whole.read_all.Given as goal

abbrev pub invariant-pieces : goal.invariant-pieces
invariant-pieces g l = record {
  within : length l.bytes ≤ l.limit;
  room : 0 < vec_len l.buffer;
  lost : Loses (g.S.Source.left l.initial.source) (g.S.Source.left l.source) l.bytes;
  counts : g.S.Source.faults_of l.initial.source ≤ g.S.Source.faults_of l.source;
}

abbrev pub decreases-pieces : goal.decreases-pieces
decreases-pieces g l = l.limit - length l.bytes
