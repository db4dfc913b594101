use Rattle.std.proofs.Common.{arith, refl, length, ◌≤◌, ◌≡◌}
use Rattle.com_stub.specs.CounterRows.{index_of}
use Rattle.com_stub.proofs.CounterLemmas.{table_push}
use Rattle.com_stub.proofs.Sums.{sum_push}
use Rattle.com_stub.proofs.counters.Counters.open.Goals as goal

pub invariant_of-self : goal.invariant_of-self
invariant_of-self c =
    let rows = c.self.inside.rows in
    let at : c.find-at.result ≡ index_of rows.items c.args.object c.args.iface = rw (← c.deref.ensures.value) c.find-at.ensures in
    let new : length rows.items ≤ index_of rows.items c.args.object c.args.iface = omega (arith, rows.ok.0) in
    rw c.push_reserved.ensures.items
    (table_push rows.items c.self.inside.chains c.append.new.self (record { object = c.args.object; iface = c.args.iface; count = 0 }) c.self.invariant c.append.ensures.keys new (λ o. rw (sum_push rows.items o (record { object = c.args.object; iface = c.args.iface; count = 0 }) refl) (c.self.invariant.sums o)))
