use Rattle.com_laws_amounts.proofs.Counted.{legal-equal, legal-none}
use Rattle.com_laws_amounts.proofs.none_negative.Goals as goal

pub returns-clause-same : goal.returns-clause-same
returns-clause-same c = legal-equal

pub returns-clause-none : goal.returns-clause-none
returns-clause-none c = legal-none
