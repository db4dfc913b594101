use Rattle.com_lists.specs.Chain.{free_node}
use Rattle.com_lists.proofs.Stored.{seen_grown}
use Rattle.com_lists.proofs.Nodes.grow.Goals as goal

pub returns-clause-nodes : goal.returns-clause-nodes
returns-clause-nodes c =
    seen_grown free_node _ _ _ c.self.inside.count c.args.count _ _ c.self.view_is c.reserve.ensures.items c.self.inside.written.ok.0 c.reserve.ensures.len c.self.invariant.0 c.requires
