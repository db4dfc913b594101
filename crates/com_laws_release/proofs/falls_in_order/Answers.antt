use Rattle.com_laws_release.proofs.Orders.{legal-fallen}
use Rattle.com_laws_release.proofs.falls_in_order.Goals as goal

pub returns : goal.returns
returns c = legal-fallen
