use Rattle.std.proofs.Common.{◌≡◌, sym, arith, subst, ◌+◌}
use Rattle.com_keyed.specs.Indices.{reach}
use Rattle.com_keyed.proofs.Walking.{walk_begins, walk_goes_on, walk_inside, walk_at}
use Rattle.com_stub.proofs.Sums.{sum_begins, sum_goes_on, sum_fits, sum_from}
use Rattle.com_stub.proofs.counters.sum.Goals as goal

pub loop-at-init : goal.loop-at-init
loop-at-init c = record {
  walks = walk_begins c.args.chains.now.keys c.args.object (λ p. Unit {0}) c.last-at.result c.last-at.ensures;
  summed = sym (sum_begins c.args.rows.now c.args.chains.now.keys c.args.object c.requires.keyed c.last-at.result c.last-at.ensures);
}

pub overflow_add-sum : goal.overflow_add-sum
overflow_add-sum c =
    let i = c.loop-at.invariant in
    let keys = c.args.chains.now.keys in
    let inside = walk_inside keys c.args.object _ c.loop-at.at c.in-Some.index i.walks c.in-Some.is in
    let keyed = walk_at keys c.args.object _ c.loop-at.at c.in-Some.index i.walks c.in-Some.is in
    let so_far : c.loop-at.sum ≡ sum_from c.args.rows.now c.args.object (c.in-Some.index + 1) = subst (λ v. c.loop-at.sum ≡ sum_from c.args.rows.now c.args.object (reach v)) c.in-Some.is i.summed in
    let fits = sum_fits c.args.rows.now keys c.args.object c.requires.keyed c.in-Some.index inside keyed in
    omega (arith, c.requires.fits)

pub loop-at-preserved : goal.loop-at-preserved
loop-at-preserved c =
    let i = c.loop-at.invariant in
    let keys = c.args.chains.now.keys in
    let inside = walk_inside keys c.args.object _ c.loop-at.at c.in-Some.index i.walks c.in-Some.is in
    let keyed = walk_at keys c.args.object _ c.loop-at.at c.in-Some.index i.walks c.in-Some.is in
    let so_far : c.loop-at.sum ≡ sum_from c.args.rows.now c.args.object (c.in-Some.index + 1) = subst (λ v. c.loop-at.sum ≡ sum_from c.args.rows.now c.args.object (reach v)) c.in-Some.is i.summed in
    let on = sum_goes_on c.args.rows.now keys c.args.object c.requires.keyed c.in-Some.index c.earlier-at.result inside keyed c.earlier-at.ensures in
    record {
      walks = walk_goes_on keys c.args.object (λ p. Unit {0}) c.loop-at.at c.earlier-at.result c.in-Some.index i.walks c.in-Some.is tt c.earlier-at.ensures;
      summed = omega arith;
    }
