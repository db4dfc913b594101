use Rattle.com_laws_safety.proofs.Reentered.{legal-reentry}
use Rattle.com_laws_safety.proofs.reentry.Goals as goal

pub returns : goal.returns
returns c = legal-reentry
