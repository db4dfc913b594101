use Rattle.std.proofs.Common.{refl}
use Rattle.com_lists.proofs.ChainLemmas.{is_apart}
use Rattle.com_lists.proofs.Lists.nodes.Goals as goal

pub returns-clause-apart : goal.returns-clause-apart
returns-clause-apart c = rw (← c.self.view_is) (is_apart _ _ _ _ c.self.invariant refl)
