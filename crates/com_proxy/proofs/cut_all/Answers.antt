use Rattle.com_keyed.proofs.Walking.{walk_ends}
use Rattle.com_proxy.proofs.Rows.{cut_is}
use Rattle.com_proxy.proofs.cut_all.Goals as goal

pub returns : goal.returns
returns c =
    let i = c.loop-at.invariant in
    cut_is c.loop-at.rows c.args.rows.now c.args.objects.now.keys c.args.object c.loop-at.auto.rows c.requires.keyed (walk_ends c.args.objects.now.keys c.args.object _ c.loop-at.at i.walks c.in_default.is) i.others
