use Rattle.com_keyed.proofs.Walking.{walk_ends}
use Rattle.com_packets.proofs.Ending.{cut_is}
use Rattle.com_packets.proofs.end_all.Goals as goal

pub returns-clause-entries : goal.returns-clause-entries
returns-clause-entries c =
    let i = c.loop-at.invariant in
    cut_is c.loop-at.slots.entries c.args.slots.now.entries c.args.chains.now.keys c.args.object i.as_many c.requires.as_many c.requires.keyed (walk_ends c.args.chains.now.keys c.args.object _ c.loop-at.at i.walks c.in_default.is) i.others
