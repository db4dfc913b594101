use Rattle.com_laws_versions.proofs.Formed.{moved_formed}
use Rattle.com_laws_versions.proofs.Histories.{moved_counts, moved_ends, moved_legal}
use Rattle.com_laws_versions.proofs.laws.moves.Goals as goal

pub returns-clause-formed : goal.returns-clause-formed
returns-clause-formed c = moved_formed

pub returns-clause-lawful : goal.returns-clause-lawful
returns-clause-lawful c = moved_legal

pub returns-clause-counts : goal.returns-clause-counts
returns-clause-counts c = moved_counts

pub returns-clause-ends : goal.returns-clause-ends
returns-clause-ends c = moved_ends
