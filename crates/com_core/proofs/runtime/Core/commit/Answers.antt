-- The entry that is answered is the one that was made.
use Rattle.com_core.proofs.Kept.{next_taken}
use Rattle.com_core.proofs.runtime.Core.commit.Goals as goal

pub returns-clause-follows : goal.returns-clause-follows
returns-clause-follows c = next_taken _ _ _ _ _ _ _ c.take_last.ensures.entry c.take_last.ensures.core c.in_ok-commit_last.ensures.follows
