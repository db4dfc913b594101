use Rattle.com_ledger.proofs.Tied.{holders-tie}
use Rattle.com_ledger.proofs.laws.holders_tie.Goals as goal

pub returns : goal.returns
returns c = holders-tie
