use Rattle.com_refs.proofs.Ties.{counts_tell, counts_total}
use Rattle.com_refs.proofs.Refs.tells.Goals as goal

pub returns-clause-tells : goal.returns-clause-tells
returns-clause-tells c = rw (← c.self.view_is) (λ n places counts. counts_tell n places c.self.inside.holders c.stands.ensures.apart counts)

pub returns-clause-totals : goal.returns-clause-totals
returns-clause-totals c = rw (← c.self.view_is) (λ n places counts. counts_total n places c.self.inside.holders c.stands.ensures.owned counts)
