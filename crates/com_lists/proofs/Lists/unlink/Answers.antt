use Rattle.std.proofs.Common.{arith}
use Rattle.com_lists.proofs.ChainLemmas.{reads_node, stands_for_itself, stands_after_unlink, lists_of_stands, length_after_set, same_linked, node_held, held_after_next, held_after_previous, after_still_in}
use Rattle.com_lists.proofs.Lists.unlink.Goals as goal

pub set_next-requires-clause-head : goal.set_next-requires-clause-head
set_next-requires-clause-head c =
    let read = reads_node _ _ _ c.self.invariant c.args.node c.in-Some.head c.linked-holder.result (rw (← c.self.view_is) at c.requires) c.linked-holder.ensures c.in-Some.is in
    omega (arith, read.head_in, c.self.inside.heads.ok.0)

pub set_next-requires-clause-before : goal.set_next-requires-clause-before
set_next-requires-clause-before c = λ z e.
    let read = reads_node _ _ _ c.self.invariant c.args.node c.in-Some.head c.linked-holder.result (rw (← c.self.view_is) at c.requires) c.linked-holder.ensures c.in-Some.is in
    read.before_held z e

pub set_previous-requires-clause-head : goal.set_previous-requires-clause-head
set_previous-requires-clause-head c =
    let read = reads_node _ _ _ c.self.invariant c.args.node c.in-Some.head c.linked-holder.result (rw (← c.self.view_is) at c.requires) c.linked-holder.ensures c.in-Some.is in
    omega (arith, read.head_in, c.self.inside.heads.ok.0, c.set_next.ensures.heads_len)

pub set_previous-requires-clause-after : goal.set_previous-requires-clause-after
set_previous-requires-clause-after c = λ z e.
    let read = reads_node _ _ _ c.self.invariant c.args.node c.in-Some.head c.linked-holder.result (rw (← c.self.view_is) at c.requires) c.linked-holder.ensures c.in-Some.is in
    held_after_next _ _ _ _ c.set_next.ensures.nodes read.before_in z (read.after_held z e)

pub invariant_of-self : goal.invariant_of-self
invariant_of-self c =
    let read = reads_node _ _ _ c.self.invariant c.args.node c.in-Some.head c.linked-holder.result (rw (← c.self.view_is) at c.requires) c.linked-holder.ensures c.in-Some.is in
    stands_for_itself _ _ _ (stands_after_unlink _ _ _ _ _ _ _ _ _ _ _ c.self.invariant read c.set_next.ensures.heads c.set_next.ensures.nodes c.set_previous.ensures.heads c.set_previous.ensures.nodes c.rewrite.ensures)

pub returns : goal.returns
returns c =
    let read = reads_node _ _ _ c.self.invariant c.args.node c.in-Some.head c.linked-holder.result (rw (← c.self.view_is) at c.requires) c.linked-holder.ensures c.in-Some.is in
    let stands = stands_after_unlink _ _ _ _ _ _ _ _ _ _ _ c.self.invariant read c.set_next.ensures.heads c.set_next.ensures.nodes c.set_previous.ensures.heads c.set_previous.ensures.nodes c.rewrite.ensures in
    rw (← c.self.view_is) (same_linked _ _ _ _ (lists_of_stands _ _ _ stands) (omega (arith, c.set_next.ensures.nodes_len, c.set_previous.ensures.nodes_len, length_after_set _ _ _ _ c.rewrite.ensures)))

pub linked-holder-requires : goal.linked-holder-requires
linked-holder-requires c = node_held _ _ _ c.self.invariant c.args.node (rw (← c.self.view_is) at c.requires)

pub rewrite-requires : goal.rewrite-requires
rewrite-requires c =
    let read = reads_node _ _ _ c.self.invariant c.args.node c.in-Some.head c.linked-holder.result (rw (← c.self.view_is) at c.requires) c.linked-holder.ensures c.in-Some.is in
    held_after_previous _ _ _ _ c.set_previous.ensures.nodes (after_still_in _ _ _ c.set_next.ensures.nodes_len read.after_in) c.args.node
    (held_after_next _ _ _ _ c.set_next.ensures.nodes read.before_in c.args.node (node_held _ _ _ c.self.invariant c.args.node (rw (← c.self.view_is) at c.requires)))
