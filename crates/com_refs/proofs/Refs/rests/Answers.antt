use Rattle.com_refs.proofs.Rests.{ends_none}
use Rattle.com_refs.proofs.Refs.rests.Goals as goal

pub returns : goal.returns
returns c = λ n places tells totals. rw (← c.self.view_is) (ends_none _ _ n places (c.gives_nothing.ensures n places (rw (← c.self.view_is) at tells)) c.self.invariant.counts (rw (← c.self.view_is) at totals))
