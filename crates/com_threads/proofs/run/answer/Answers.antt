use Rattle.com_threads.proofs.Added.{ended_told}
use Rattle.com_threads.proofs.run.answer.Goals as goal

pub returns-clause-ended : goal.returns-clause-ended
returns-clause-ended g c = ended_told _ _ _ _ _ _ c.requires.at c.requires.ended c.into_parts-history.ensures.entries
