use Rattle.com_laws_check.proofs.Exact.{agrees, judged-agrees}
use Rattle.com_laws_check.proofs.agrees_exactly.Goals as goal

pub returns-clause-agrees : goal.returns-clause-agrees
returns-clause-agrees c = agrees

pub returns-clause-judged : goal.returns-clause-judged
returns-clause-judged c = judged-agrees
