use Rattle.com_laws_messages.proofs.Bites.{values-one, result-one}
use Rattle.com_laws_messages.proofs.nothing_else_is_read.Goals as goal

pub returns-clause-request : goal.returns-clause-request
returns-clause-request c = values-one

pub returns-clause-reply : goal.returns-clause-reply
returns-clause-reply c = result-one
