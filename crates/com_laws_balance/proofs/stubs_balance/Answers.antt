use Rattle.com_laws_balance.proofs.Balances.{legal-balanced}
use Rattle.com_laws_balance.proofs.stubs_balance.Goals as goal

pub returns : goal.returns
returns c = legal-balanced
