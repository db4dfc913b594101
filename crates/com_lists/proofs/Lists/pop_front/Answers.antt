use Rattle.std.proofs.Common.{sym}
use Rattle.com_lists.proofs.ChainLemmas.{holder_first}
use Rattle.com_lists.proofs.Lists.pop_front.Goals as goal

pub unlink-requires : goal.unlink-requires
unlink-requires c = holder_first 0 c.args.head c.args.self.now.lists c.in_ok-node.node (sym c.in_ok-node.ensures.node)
