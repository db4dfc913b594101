use Rattle.com_ledger.proofs.Applying.{applied-ties}
use Rattle.com_ledger.proofs.laws.applied_ties.Goals as goal

pub returns : goal.returns
returns c = applied-ties
