use Rattle.com_laws_unchanged.proofs.Endings.{history-end, books-end, state-end}
use Rattle.com_laws_unchanged.proofs.laws.books_by_ends.Goals as goal

pub returns-clause-history : goal.returns-clause-history
returns-clause-history c = history-end

pub returns-clause-next : goal.returns-clause-next
returns-clause-next c = books-end

pub returns-clause-state : goal.returns-clause-state
returns-clause-state c = state-end
