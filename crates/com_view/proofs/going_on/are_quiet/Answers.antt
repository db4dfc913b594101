use Rattle.std.proofs.Common.{◌≡◌, ◌+◌, ◌-◌, false, sym, arith}
use Rattle.com_view.specs.Standings.{is_quiet}
use Rattle.com_view.proofs.Each.{each_not_one}
use Rattle.com_view.proofs.going_on.are_quiet.Goals as goal

pub returns-then-not-is_quiet : goal.returns-then-not-is_quiet
returns-then-not-is_quiet c =
    let stops : is_quiet c.args.view.now (c.loop-before.before + 1) ≡ false = cc (c.is_quiet.ensures, c.if-not-is_quiet.true) in
    let left : c.loop-before.before + 1 + (c.args.count - c.loop-before.before - 1) ≡ c.args.count = omega arith in
    sym (each_not_one (is_quiet c.args.view.now) c.loop-before.before c.args.count (c.args.count - c.loop-before.before - 1) left stops)
