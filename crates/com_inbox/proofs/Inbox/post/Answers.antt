use Rattle.std.proofs.Common.{sym, ◌∙◌}
use Rattle.com_inbox.proofs.QueueLemmas.{queue_of-from_one, queues_of-push}
use Rattle.com_inbox.proofs.Inbox.post.Goals as goal

pub push_back-requires-clause-free : goal.push_back-requires-clause-free
push_back-requires-clause-free c =
    sym (queue_of-from_one c.self.inside.lists c.args.number c.requires.positive) ∙ (rw (← c.self.view_is) at c.requires.free)

pub returns : goal.returns
returns c =
    rw (← c.self.view_is, c.push_back.ensures) (queues_of-push c.self.inside.lists c.args.queue c.args.number c.requires.positive)
