use Rattle.std.proofs.Common.{arith}
use Rattle.std.proofs.lemmas.Result.{on_ok_weaker}
use Rattle.com_inbox.proofs.QueueLemmas.{numbered-grown, length-numbered}
use Rattle.com_inbox.proofs.Inbox.reserve.Goals as goal

pub returns-clause-queues : goal.returns-clause-queues
returns-clause-queues c =
    let lists = c.self.inside.lists.lists in
    rw (← c.self.view_is) (on_ok_weaker c.grow.result (λ grown. numbered-grown lists c.grow.new.self.lists _ _ grown (omega (arith, length-numbered lists))) c.grow.ensures.lists)
