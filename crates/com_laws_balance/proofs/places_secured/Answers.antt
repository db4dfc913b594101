use Rattle.com_laws_balance.proofs.Laws.{legal-balance}
use Rattle.com_laws_balance.proofs.places_secured.Goals as goal

pub returns : goal.returns
returns c = legal-balance
