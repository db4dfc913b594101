use Rattle.std.proofs.Common.{ap, refl}
use Rattle.com_lists.specs.declared.Head.{Head}
use Rattle.com_lists.proofs.ChainLemmas.{first_within, reads_head}
use Rattle.com_lists.proofs.Lists.front.Goals as goal

pub returns-clause-within : goal.returns-clause-within
returns-clause-within c =
    let read = reads_head _ _ _ c.self.invariant c.args.head c.index.result.now (rw (← c.self.view_is) at c.requires) c.index.ensures in
    rw (← c.self.view_is) (first_within _ _ _ c.self.invariant c.args.head c.index.result.now.first (ap (λ (h : Head). h.first) read) _ refl)
