use Rattle.com_dispatch.proofs.FewMethods.{few_of}
use Rattle.com_dispatch.proofs.invoke.standing.outcome.Goals as goal

pub bind_among-requires : goal.bind_among-requires
bind_among-requires c = few_of c.args.tables.now c.args.invocation.now.iface c.methods_at.result.now c.methods_at.ensures c.requires.few
