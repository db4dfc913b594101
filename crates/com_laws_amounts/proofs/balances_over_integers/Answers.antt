use Rattle.com_laws_amounts.proofs.Counted.{legal-balances}
use Rattle.com_laws_amounts.proofs.balances_over_integers.Goals as goal

pub returns : goal.returns
returns c = legal-balances
