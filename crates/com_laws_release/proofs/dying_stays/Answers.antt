use Rattle.com_laws_release.proofs.Orders.{legal-dying}
use Rattle.com_laws_release.proofs.dying_stays.Goals as goal

pub returns : goal.returns
returns c = legal-dying
