use Rattle.std.proofs.Common.{inl, inr, arith}
use Rattle.ndr_args.proofs.Appending.{measured_at, too_long, too_many, measured_all}
use Rattle.ndr_args.proofs.writing.args_length.Goals as goal

pub returns-in_default-clause-none : goal.returns-in_default-clause-none
returns-in_default-clause-none c =
    inl (too_long c.loop-value.length c.loop-value.referent c.value-item.result c.args.values.now c.loop-value.value-index c.loop-value-test.true c.value-item.is c.loop-value.invariant
    (rw (← c.padded_length-more.ensures) (omega (arith, c.in_default.ensures))))

pub returns-in_default-next_referent-clause-none : goal.returns-in_default-next_referent-clause-none
returns-in_default-next_referent-clause-none c =
    inr (too_many c.loop-value.length c.loop-value.referent c.value-item.result c.args.values.now c.loop-value.value-index c.loop-value-test.true c.value-item.is c.loop-value.invariant
    c.in_default-next_referent.ensures.none)

pub loop-value-preserved : goal.loop-value-preserved
loop-value-preserved c =
    measured_at c.loop-value.length c.in-Some.longer c.loop-value.referent c.in-Some-next_referent.next c.value-item.result c.args.values.now c.loop-value.value-index c.loop-value-test.true c.value-item.is c.loop-value.invariant
    (rw (← c.padded_length-more.ensures) c.in-Some.ensures.1) c.in-Some-next_referent.ensures.some c.in-Some-next_referent.ensures.fits

pub returns-clause-length : goal.returns-clause-length
returns-clause-length c =
    (measured_all c.loop-value.length c.loop-value.referent c.args.values.now c.loop-value.value-index c.loop-value-test.false c.loop-value.invariant).0

pub returns-clause-referents : goal.returns-clause-referents
returns-clause-referents c =
    (measured_all c.loop-value.length c.loop-value.referent c.args.values.now c.loop-value.value-index c.loop-value-test.false c.loop-value.invariant).1
