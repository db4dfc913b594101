use Rattle.com_ledger.proofs.Tied.{losses-touched}
use Rattle.com_ledger.proofs.laws.losses_touched.Goals as goal

pub returns : goal.returns
returns c = losses-touched
