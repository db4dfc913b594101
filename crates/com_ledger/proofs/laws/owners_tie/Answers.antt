use Rattle.com_ledger.proofs.Following.{owners-tie}
use Rattle.com_ledger.proofs.Tied.{first-owners}
use Rattle.com_ledger.proofs.laws.owners_tie.Goals as goal

pub returns-clause-first : goal.returns-clause-first
returns-clause-first c = first-owners

pub returns-clause-later : goal.returns-clause-later
returns-clause-later c = owners-tie
