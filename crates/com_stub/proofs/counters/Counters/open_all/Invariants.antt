use Rattle.std.proofs.Common.{◌≡◌, ◌+◌, ◌≤◌, drop}
use Rattle.com_stub.specs.CounterRows.{opened_all}
use Rattle.com_stub.proofs.counters.Counters.open_all.Given as goal

abbrev pub invariant-loop-iface : goal.invariant-loop-iface
invariant-loop-iface l = record {
  rows : opened_all l.object (drop l.iface-index l.set) l.self.rows ≡ opened_all l.object l.set l.fn.self.rows;
  spare : l.fn.self.spare ≤ l.self.spare + l.iface-index;
}
