use Rattle.com_refs_holders.proofs.Rests.{gives_none}
use Rattle.com_refs_holders.proofs.Holders.gives_nothing.Goals as goal

pub returns : goal.returns
returns c = λ n places tells. rw (← c.self.view_is) (gives_none _ n places c.self.invariant.stands (rw (← c.self.view_is) at tells))
