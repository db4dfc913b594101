use Rattle.com_laws_values.proofs.Laws.{legal-holds}
use Rattle.com_laws_values.proofs.holds_declared.Goals as goal

pub returns : goal.returns
returns c = legal-holds
