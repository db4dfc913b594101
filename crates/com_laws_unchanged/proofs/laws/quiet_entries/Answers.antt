use Rattle.com_laws_unchanged.proofs.Quiets.{quiet-entry-books, quiet-entry-fallen, quiet-entry-places}
use Rattle.com_laws_unchanged.proofs.laws.quiet_entries.Goals as goal

pub returns-clause-books : goal.returns-clause-books
returns-clause-books c = quiet-entry-books

pub returns-clause-fallen : goal.returns-clause-fallen
returns-clause-fallen c = quiet-entry-fallen

pub returns-clause-places : goal.returns-clause-places
returns-clause-places c = quiet-entry-places
