use Rattle.com_laws_values.proofs.Laws.{legal-names}
use Rattle.com_laws_values.proofs.names_declared.Goals as goal

pub returns : goal.returns
returns c = legal-names
