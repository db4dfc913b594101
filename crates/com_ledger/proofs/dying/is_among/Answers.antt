use Rattle.std.proofs.Common.{get_or, refl, sym, arith}
use Rattle.com_ledger.proofs.Keeping.{found_at, not_yet}
use Rattle.com_ledger.proofs.dying.is_among.Goals as goal

pub returns-then-other-object : goal.returns-then-other-object
returns-then-other-object c =
    let n = c.loop-other.other-index in
    let xs = c.args.objects.now in
    sym (found_at c.args.object (get_or xs n 0) xs n (omega arith) refl c.if-other-object.true)

pub loop-other-preserved : goal.loop-other-preserved
loop-other-preserved c =
    let n = c.loop-other.other-index in
    let xs = c.args.objects.now in
    not_yet c.args.object (get_or xs n 0) xs n (omega arith) refl c.if-other-object.false c.loop-other.invariant
