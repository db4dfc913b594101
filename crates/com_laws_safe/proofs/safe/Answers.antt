use Rattle.com_laws_safe.proofs.Whole.{legal-safe}
use Rattle.com_laws_safe.proofs.safe.Goals as goal

pub returns : goal.returns
returns c = legal-safe
