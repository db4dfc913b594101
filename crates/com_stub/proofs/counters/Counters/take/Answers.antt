use Rattle.std.proofs.Common.{arith, sym, length, ◌<◌, ◌≡◌}
use Rattle.com_stub.specs.CounterRows.{index_of}
use Rattle.com_stub.proofs.Sums.{table_less}
use Rattle.com_stub.proofs.counters.Counters.take.Goals as goal

pub invariant_of-self : goal.invariant_of-self
invariant_of-self c =
    let rows = c.self.inside.rows in
    let at : index_of rows.items c.args.object c.args.iface ≡ c.find-at.result = rw (← c.deref.ensures.value) (sym c.find-at.ensures) in
    let inside : c.find-at.result < length rows.items = omega (arith, rows.ok.0) in
    table_less rows.items c.self.inside.chains c.args.object c.args.iface c.find-at.result c.index_mut-row.result.now c.self.invariant at inside c.index_mut-row.ensures.value c.args.n
