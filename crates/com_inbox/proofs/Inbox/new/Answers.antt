use Rattle.com_inbox.proofs.QueueLemmas.{numbered-empty}
use Rattle.com_inbox.proofs.Inbox.new.Goals as goal

pub returns-clause-queues : goal.returns-clause-queues
returns-clause-queues c = rw c.in_ok-lists.ensures.lists (numbered-empty _)
