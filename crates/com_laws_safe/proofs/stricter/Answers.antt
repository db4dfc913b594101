use Rattle.com_laws_safe.proofs.Stricts.{legal-stricter}
use Rattle.com_laws_safe.proofs.stricter.Goals as goal

pub returns : goal.returns
returns c = legal-stricter
