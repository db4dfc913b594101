use Rattle.std.proofs.Common.{arith}
use Rattle.com_lists.proofs.ChainLemmas.{reads_last_held, stands_for_itself, stands_after_push, lists_of_stands, length_after_set, same_linked}
use Rattle.com_lists.proofs.Lists.push_back.Goals as goal

pub set_next-requires-clause-before : goal.set_next-requires-clause-before
set_next-requires-clause-before c = λ z e.
    reads_last_held _ _ _ c.self.invariant c.args.head c.index.result.now (rw (← c.self.view_is) at c.requires.head) c.index.ensures z e

pub invariant_of-self : goal.invariant_of-self
invariant_of-self c =
    let requires = rw (← c.self.view_is) at c.requires in
    stands_for_itself _ _ _ (stands_after_push _ _ _ c.args.node c.args.head c.index.result.now _ _ _ _ _ c.self.invariant requires.head (omega (arith, requires.node)) requires.free c.index.ensures c.set_next.ensures.heads c.set_next.ensures.nodes c.set_previous.ensures.heads c.set_previous.ensures.nodes c.set.ensures)

pub returns : goal.returns
returns c =
    let requires = rw (← c.self.view_is) at c.requires in
    let stands = stands_after_push _ _ _ c.args.node c.args.head c.index.result.now _ _ _ _ _ c.self.invariant requires.head (omega (arith, requires.node)) requires.free c.index.ensures c.set_next.ensures.heads c.set_next.ensures.nodes c.set_previous.ensures.heads c.set_previous.ensures.nodes c.set.ensures in
    rw (← c.self.view_is) (same_linked _ _ _ _ (lists_of_stands _ _ _ stands) (omega (arith, c.set_next.ensures.nodes_len, c.set_previous.ensures.nodes_len, length_after_set _ _ _ _ c.set.ensures)))
