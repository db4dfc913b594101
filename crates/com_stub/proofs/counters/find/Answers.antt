use Rattle.com_keyed.proofs.Walking.{walk_ends}
use Rattle.com_stub.proofs.CounterLemmas.{index_past}
use Rattle.com_stub.proofs.counters.find.Goals as goal

pub returns : goal.returns
returns c =
    index_past c.args.rows.now c.args.chains.now.keys c.args.object c.args.iface c.requires.keyed (walk_ends c.args.chains.now.keys c.args.object _ c.loop-at.at c.loop-at.invariant c.in_default.is)
