use Rattle.std.proofs.Common.{arith, refl}
use Rattle.com_lists.specs.Chain.{free_node}
use Rattle.com_lists.proofs.Stored.{seen_set, seen_set_behind}
use Rattle.com_lists.proofs.Nodes.set.Goals as goal

pub returns-then-index-len : goal.returns-then-index-len
returns-then-index-len c =
    seen_set free_node c.args.kept _ _ _ c.args.node c.self.view_is (omega (arith, c.if-index-len.true, c.len.ensures, c.self.inside.written.ok.0))

pub returns : goal.returns
returns c =
    seen_set_behind free_node c.args.kept _ _ _ _ c.self.inside.count c.args.node _ c.args.node _ c.self.view_is c.self.inside.written.ok.0 (omega (arith, c.if-index-len.false, c.len.ensures)) c.requires
    refl c.write_behind.ensures.items refl c.write_behind.ensures.len
