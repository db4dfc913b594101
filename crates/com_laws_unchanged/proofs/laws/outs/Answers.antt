use Rattle.com_laws_unchanged.proofs.Issues.{out-entry-places, out-entry-books, out-entry-fallen}
use Rattle.com_laws_unchanged.proofs.laws.outs.Goals as goal

pub returns-clause-places : goal.returns-clause-places
returns-clause-places c = out-entry-places

pub returns-clause-books : goal.returns-clause-books
returns-clause-books c = out-entry-books

pub returns-clause-fallen : goal.returns-clause-fallen
returns-clause-fallen c = out-entry-fallen
