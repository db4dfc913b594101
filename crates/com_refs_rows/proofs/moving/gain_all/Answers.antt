use Rattle.std.proofs.Common.{refl, ◌∙◌, arith}
use Rattle.com_refs_rows.proofs.Owning.{owned_then}
use Rattle.com_refs_rows.proofs.Placed.{gained_none, gained_next, gained_all}
use Rattle.com_refs_rows.proofs.moving.gain_all.Goals as goal

pub loop-moved-init : goal.loop-moved-init
loop-moved-init c = record { books = refl; objects = (refl, λ x a. refl); some = gained_none c.args.gained.now c.args.refs.now; more = λ o. omega arith; offers = λ x j. refl; issued = omega arith; spare = omega arith }

pub gain-requires-clause-known : goal.gain-requires-clause-known
gain-requires-clause-known c = c.loop-moved.invariant.offers _ _ ∙ c.requires.known c.loop-moved.moved-index c.loop-moved-test.true

pub loop-moved-preserved : goal.loop-moved-preserved
loop-moved-preserved c = record {
  books = c.gain.ensures.books ∙ c.loop-moved.invariant.books;
  objects = owned_then c.args.refs.now c.loop-moved.refs c.gain.new.refs c.loop-moved.invariant.objects c.gain.ensures.objects;
  some = gained_next c.args.gained.now c.loop-moved.moved-index (record { apartment = 0; reference = record { object = 0; iface = 0 } })
      c.args.refs.now c.loop-moved.refs c.gain.new.refs c.loop-moved-test.true c.loop-moved.invariant.some c.gain.ensures.places;
  more = λ o. omega (arith, c.loop-moved.invariant.more o, c.gain.ensures.more o);
  offers = λ x j. c.gain.ensures.offers x j ∙ c.loop-moved.invariant.offers x j;
  issued = omega (arith, c.loop-moved.invariant.issued, c.gain.ensures.issued);
  spare = omega (arith, c.loop-moved.invariant.spare, c.gain.ensures.spare);
}

pub returns-clause-books : goal.returns-clause-books
returns-clause-books c = c.loop-moved.invariant.books

pub returns-clause-objects : goal.returns-clause-objects
returns-clause-objects c = c.loop-moved.invariant.objects

pub returns-clause-places : goal.returns-clause-places
returns-clause-places c = gained_all c.args.gained.now c.loop-moved.moved-index c.args.refs.now c.loop-moved.refs c.loop-moved-test.false c.loop-moved.invariant.some

pub returns-clause-more : goal.returns-clause-more
returns-clause-more c = c.loop-moved.invariant.more
