use Rattle.std.proofs.Common.{◌≡◌, ◌+◌, ◌-◌, false, sym, arith}
use Rattle.com_view.specs.Standings.{over_at}
use Rattle.com_view.proofs.Each.{each_not_one}
use Rattle.com_view.proofs.going_on.are_over.Goals as goal

pub returns-then-not-is_over : goal.returns-then-not-is_over
returns-then-not-is_over c =
    let stops : over_at c.args.view.now.lanes (c.loop-before.before + 1) ≡ false = cc (c.is_over.ensures, c.if-not-is_over.true) in
    let left : c.loop-before.before + 1 + (c.args.threads - c.loop-before.before - 1) ≡ c.args.threads = omega arith in
    sym (each_not_one (over_at c.args.view.now.lanes) c.loop-before.before c.args.threads (c.args.threads - c.loop-before.before - 1) left stops)
