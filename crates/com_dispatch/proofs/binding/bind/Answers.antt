use Rattle.com_dispatch.proofs.FewMethods.{few_of}
use Rattle.com_dispatch.proofs.binding.bind.Goals as goal

pub bind_among-requires : goal.bind_among-requires
bind_among-requires c = few_of c.args.classes.now.interfaces c.args.iface c.methods_of.result.now c.methods_of.ensures c.requires
