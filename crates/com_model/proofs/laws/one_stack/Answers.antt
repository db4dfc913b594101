use Rattle.com_model.proofs.Stacks.{legal-nested, back-own, leave-own}
use Rattle.com_model.proofs.laws.one_stack.Goals as goal

pub returns-clause-nested : goal.returns-clause-nested
returns-clause-nested c = legal-nested

pub returns-clause-own_out : goal.returns-clause-own_out
returns-clause-own_out c = back-own

pub returns-clause-own_enter : goal.returns-clause-own_enter
returns-clause-own_enter c = leave-own
