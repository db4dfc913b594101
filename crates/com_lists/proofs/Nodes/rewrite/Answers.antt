use Rattle.com_lists.specs.Chain.{free_node}
use Rattle.com_lists.proofs.Stored.{seen_set}
use Rattle.com_lists.proofs.ChainLemmas.{written_when_held}
use Rattle.com_lists.proofs.Nodes.rewrite.Goals as goal

pub returns : goal.returns
returns c = seen_set free_node c.args.kept _ _ _ c.args.node c.self.view_is (written_when_held _ _ _ c.args.node c.self.view_is c.requires)
