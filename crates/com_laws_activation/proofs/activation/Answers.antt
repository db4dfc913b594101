use Rattle.com_laws_activation.proofs.Making.{legal-activates}
use Rattle.com_laws_activation.proofs.activation.Goals as goal

pub returns : goal.returns
returns c = legal-activates
