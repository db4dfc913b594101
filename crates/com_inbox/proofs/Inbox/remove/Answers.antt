use Rattle.std.proofs.Common.{arith, sym, ◌∙◌}
use Rattle.com_inbox.proofs.QueueLemmas.{queue_of-from_one, queue_of_past, queue_of_zero, waits_not, waits, none_from, without_number_none, queues_of-unlink}
use Rattle.com_inbox.proofs.Inbox.remove.Goals as goal

pub returns-then-number-eq0-clause-waited : goal.returns-then-number-eq0-clause-waited
returns-then-number-eq0-clause-waited c =
    rw (← c.self.view_is) (waits_not _ (queue_of_zero c.self.inside.lists c.args.number c.if-number-eq0.true))

pub returns-then-number-eq0-clause-queues : goal.returns-then-number-eq0-clause-queues
returns-then-number-eq0-clause-queues c =
    rw (← c.self.view_is) (without_number_none _ c.args.number (queue_of_zero c.self.inside.lists c.args.number c.if-number-eq0.true))

pub returns-then-node-nodes-clause-waited : goal.returns-then-node-nodes-clause-waited
returns-then-node-nodes-clause-waited c =
    rw (← c.self.view_is) (waits_not _ (queue_of_past c.self.inside.lists c.args.number c.nodes-nodes.ensures.apart (omega arith) (omega arith)))

pub returns-then-node-nodes-clause-queues : goal.returns-then-node-nodes-clause-queues
returns-then-node-nodes-clause-queues c =
    rw (← c.self.view_is) (without_number_none _ c.args.number (queue_of_past c.self.inside.lists c.args.number c.nodes-nodes.ensures.apart (omega arith) (omega arith)))

pub returns-then-is_none-clause-waited : goal.returns-then-is_none-clause-waited
returns-then-is_none-clause-waited c =
    let none = queue_of-from_one c.self.inside.lists c.args.number (omega arith) ∙ sym c.holder.ensures.head ∙ none_from c.holder.result c.if-is_none.ensures in
    rw (← c.self.view_is) (waits_not _ none)

pub returns-then-is_none-clause-queues : goal.returns-then-is_none-clause-queues
returns-then-is_none-clause-queues c =
    let none = queue_of-from_one c.self.inside.lists c.args.number (omega arith) ∙ sym c.holder.ensures.head ∙ none_from c.holder.result c.if-is_none.ensures in
    rw (← c.self.view_is) (without_number_none _ c.args.number none)

pub returns-clause-waited : goal.returns-clause-waited
returns-clause-waited c =
    let found = queue_of-from_one c.self.inside.lists c.args.number (omega arith) ∙ sym c.holder.ensures.head in
    rw (← c.self.view_is) (waits _ _ found c.if-is_none.ensures)

pub returns-clause-queues : goal.returns-clause-queues
returns-clause-queues c =
    rw (← c.self.view_is, c.unlink.ensures) (queues_of-unlink c.self.inside.lists c.args.number (omega arith))
