use Rattle.com_ledger.proofs.Tied.{first-tied}
use Rattle.com_ledger.proofs.laws.new_ledger_ties.Goals as goal

pub returns : goal.returns
returns c = first-tied
