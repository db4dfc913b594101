use Rattle.std.proofs.Common.{arith, refl, ◌∙◌}
use Rattle.com_refs_rows.proofs.Packed.{marshalled_none, marshalled_next, marshalled_last}
use Rattle.com_refs_rows.proofs.packing.marshal_all.Goals as goal

pub loop-held-init : goal.loop-held-init
loop-held-init c = record { rows = marshalled_none c.args.apartment c.args.refs.now; more = λ o. omega arith; offers = λ x j. refl; issued = omega arith; spare = omega arith }

pub marshal-requires-clause-known : goal.marshal-requires-clause-known
marshal-requires-clause-known c = c.loop-held.invariant.offers _ _ ∙ c.requires.known c.loop-held.held-index c.loop-held-test.true

pub loop-held-preserved : goal.loop-held-preserved
loop-held-preserved c = record {
  rows = marshalled_next c.args.apartment c.args.carried.now c.loop-held.held-index (record { object = 0; iface = 0 }) c.args.refs.now c.loop-held.refs c.marshal.new.refs c.loop-held-test.true c.loop-held.invariant.rows c.marshal.ensures.row c.marshal.ensures.places;
  more = λ o. omega (arith, c.loop-held.invariant.more o, c.marshal.ensures.more o);
  offers = λ x j. c.marshal.ensures.offers x j ∙ c.loop-held.invariant.offers x j;
  issued = omega (arith, c.loop-held.invariant.issued, c.marshal.ensures.issued);
  spare = omega (arith, c.loop-held.invariant.spare, c.marshal.ensures.spare);
}

pub returns-clause-rows : goal.returns-clause-rows
returns-clause-rows c = marshalled_last c.args.apartment c.args.carried.now c.loop-held.held-index c.args.refs.now c.loop-held.refs c.loop-held-test.false c.loop-held.invariant.rows

pub returns-clause-more : goal.returns-clause-more
returns-clause-more c = c.loop-held.invariant.more
