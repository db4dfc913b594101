use Rattle.com_ledger.proofs.Following.{books-next, counts-next, moves-below, places-next, ties-after}
use Rattle.com_ledger.proofs.Within.{ends-applied}
use Rattle.com_ledger.proofs.laws.entries_tie.Goals as goal

pub returns-clause-places : goal.returns-clause-places
returns-clause-places c = places-next

pub returns-clause-below : goal.returns-clause-below
returns-clause-below c = moves-below

pub returns-clause-books : goal.returns-clause-books
returns-clause-books c = books-next

pub returns-clause-counts : goal.returns-clause-counts
returns-clause-counts c = counts-next

pub returns-clause-ties : goal.returns-clause-ties
returns-clause-ties c = ties-after

pub returns-clause-ended : goal.returns-clause-ended
returns-clause-ended c = ends-applied
