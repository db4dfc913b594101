use Rattle.com_laws_amounts.proofs.Covered.{legal-covered}
use Rattle.com_laws_amounts.proofs.nothing_overdrawn.Goals as goal

pub returns : goal.returns
returns c = legal-covered
