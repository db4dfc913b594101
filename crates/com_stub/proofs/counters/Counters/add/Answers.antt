use Rattle.std.proofs.Common.{arith, sym, subst, length, ◌<◌, ◌≡◌, ◌+◌, ◌^◌}
use Rattle.std.proofs.lemmas.Grind.{common_steps}
use Rattle.com_stub.specs.CounterRows.{index_of, sum_of}
use Rattle.com_stub.proofs.CounterLemmas.{index_in_range}
use Rattle.com_stub.proofs.Sums.{count_le, table_more}
use Rattle.com_stub.proofs.counters.Counters.add.Goals as goal

pub overflow_add-row : goal.overflow_add-row
overflow_add-row c =
    let rows = c.self.inside.rows.items in
    let at : index_of rows c.args.object c.args.iface ≡ c.find-at.result = rw (← c.deref.ensures.value) (sym c.find-at.ensures) in
    let inside : c.find-at.result < length rows = grind (arith, common_steps, index_in_range) in
    let fits : sum_of rows c.args.object + c.args.n < 2 ^ 64 = subst (λ t. sum_of t.rows c.args.object + c.args.n < 2 ^ 64) (sym c.self.view_is) c.requires.fits in
    omega (arith, count_le rows c.self.inside.chains c.args.object c.args.iface c.find-at.result c.index_mut-row.result.now c.self.invariant at inside c.index_mut-row.ensures.value)

pub invariant_of-self : goal.invariant_of-self
invariant_of-self c =
    let rows = c.self.inside.rows.items in
    let at : index_of rows c.args.object c.args.iface ≡ c.find-at.result = rw (← c.deref.ensures.value) (sym c.find-at.ensures) in
    let inside : c.find-at.result < length rows = grind (arith, common_steps, index_in_range) in
    let fits : sum_of rows c.args.object + c.args.n < 2 ^ 64 = subst (λ t. sum_of t.rows c.args.object + c.args.n < 2 ^ 64) (sym c.self.view_is) c.requires.fits in
    rw c.from.ensures (table_more rows c.self.inside.chains c.args.object c.args.iface c.find-at.result c.index_mut-row.result.now c.self.invariant at inside c.index_mut-row.ensures.value c.args.n fits)
