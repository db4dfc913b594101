use Rattle.std.proofs.Common.{arith, refl, ◌∙◌}
use Rattle.com_reference_moves.specs.declared.moves.Move.{Move}
use Rattle.com_refs_rows.proofs.Unheld.{touched-none, touched-next}
use Rattle.com_refs_rows.proofs.Owning.{owned_then}
use Rattle.com_refs_rows.proofs.Placed.{ended_none, ended_next, ended_all, drop_none}
use Rattle.com_refs_rows.proofs.moving.lose_all.Goals as goal

abbrev no_move : Move
no_move = record { apartment = 0; reference = record { object = 0; iface = 0 } }

pub loop-moved-init : goal.loop-moved-init
loop-moved-init c = record {
  objects = (refl, λ x a. refl);
  ended = ended_none c.args.lost.now c.args.refs.now c.tells.ensures.tells c.tells.ensures.totals c.rests.ensures;
  touched = touched-none c.args.lost.now c.args.refs.now c.args.touched.now.items;
  offers = λ x j. refl;
  issued = refl;
  climbs = λ m. m;
  len = omega arith;
  capacity = omega arith;
}

pub loop-moved-preserved : goal.loop-moved-preserved
loop-moved-preserved c = record {
  objects = owned_then c.args.refs.now c.loop-moved.refs c.lose.new.refs c.loop-moved.invariant.objects c.lose.ensures.objects;
  ended = ended_next c.args.lost.now c.loop-moved.moved-index no_move
      c.args.refs.now c.loop-moved.refs c.lose.new.refs c.loop-moved-test.true c.loop-moved.invariant.ended c.lose.ensures.ended;
  touched = touched-next c.args.lost.now c.loop-moved.moved-index no_move
      c.args.refs.now c.loop-moved.refs c.lose.new.refs c.args.touched.now.items c.loop-moved.touched.items c.lose.new.touched.items
      c.loop-moved-test.true c.loop-moved.invariant.ended c.loop-moved.invariant.touched c.lose.ensures.touched;
  offers = λ x j. c.lose.ensures.offers x j ∙ c.loop-moved.invariant.offers x j;
  issued = c.lose.ensures.issued ∙ c.loop-moved.invariant.issued;
  climbs = λ m. c.lose.ensures.climbs (c.loop-moved.invariant.climbs m);
  len = omega (arith, c.loop-moved.invariant.len, c.lose.ensures.len);
  capacity = omega (arith, c.loop-moved.invariant.capacity, c.lose.ensures.capacity);
}

pub returns-clause-objects : goal.returns-clause-objects
returns-clause-objects c = c.loop-moved.invariant.objects

pub returns-clause-ended : goal.returns-clause-ended
returns-clause-ended c = ended_all c.args.lost.now c.loop-moved.moved-index c.args.refs.now c.loop-moved.refs (drop_none c.args.lost.now c.loop-moved.moved-index c.loop-moved-test.false) c.loop-moved.invariant.ended

pub returns-clause-touched : goal.returns-clause-touched
returns-clause-touched c = c.loop-moved.invariant.touched

pub returns-clause-climbs : goal.returns-clause-climbs
returns-clause-climbs c = c.loop-moved.invariant.climbs
