use Rattle.com_laws_unchanged.proofs.Rowless.{ends-rested, rowless-books, out-books, enter-books, leave-books, back-books}
use Rattle.com_laws_unchanged.proofs.laws.rowless_entries.Goals as goal

pub returns-clause-ends : goal.returns-clause-ends
returns-clause-ends c = ends-rested

pub returns-clause-rowless : goal.returns-clause-rowless
returns-clause-rowless c = rowless-books

pub returns-clause-out : goal.returns-clause-out
returns-clause-out c = out-books

pub returns-clause-enter : goal.returns-clause-enter
returns-clause-enter c = enter-books

pub returns-clause-leave : goal.returns-clause-leave
returns-clause-leave c = leave-books

pub returns-clause-back : goal.returns-clause-back
returns-clause-back c = back-books
