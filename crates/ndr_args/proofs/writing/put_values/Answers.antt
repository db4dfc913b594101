use Rattle.std.proofs.Common.{◌-◌, refl, arith}
use Rattle.ndr_args.proofs.Appending.{roomy_at, roomy_next, next_fits, roomy_all}
use Rattle.ndr_args.proofs.writing.put_values.Goals as goal

pub put_value-requires-clause-room : goal.put_value-requires-clause-room
put_value-requires-clause-room c =
    roomy_next c.args.out.now c.loop-value.out c.loop-value.referent (c.len.result - c.len-start.result) c.value-item.result c.args.values.now c.loop-value.value-index c.loop-value-test.true c.value-item.is c.loop-value.invariant
    (rw (c.len.ensures, c.len-start.ensures) refl)

pub unreachable-requires : goal.unreachable-requires
unreachable-requires c =
    omega (arith, c.in_default.ensures.none, next_fits c.args.out.now c.loop-value.out c.loop-value.referent c.value-item.result c.args.values.now c.loop-value.value-index c.loop-value-test.true c.value-item.is c.loop-value.invariant)

pub loop-value-preserved : goal.loop-value-preserved
loop-value-preserved c =
    roomy_at c.args.out.now c.loop-value.out c.put_value.new.out c.loop-value.referent c.in-Some.next (c.len.result - c.len-start.result) c.value-item.result c.args.values.now c.loop-value.value-index
    c.loop-value-test.true c.value-item.is c.loop-value.invariant (rw (c.len.ensures, c.len-start.ensures) refl) c.put_value.ensures.items c.put_value.ensures.spare c.put_value.ensures.length c.in-Some.ensures.some

pub returns-clause-items : goal.returns-clause-items
returns-clause-items c =
    (roomy_all c.args.out.now c.loop-value.out c.loop-value.referent c.args.values.now c.loop-value.value-index c.loop-value-test.false c.loop-value.invariant).items

pub returns-clause-spare : goal.returns-clause-spare
returns-clause-spare c =
    (roomy_all c.args.out.now c.loop-value.out c.loop-value.referent c.args.values.now c.loop-value.value-index c.loop-value-test.false c.loop-value.invariant).spare

pub returns-clause-length : goal.returns-clause-length
returns-clause-length c =
    (roomy_all c.args.out.now c.loop-value.out c.loop-value.referent c.args.values.now c.loop-value.value-index c.loop-value-test.false c.loop-value.invariant).longer
