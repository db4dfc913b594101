use Rattle.com_ledger.proofs.Within.{entered-below, entered-by, places-made, running-below}
use Rattle.com_ledger.proofs.laws.entries_reach.Goals as goal

pub returns-clause-made : goal.returns-clause-made
returns-clause-made c = places-made

pub returns-clause-running : goal.returns-clause-running
returns-clause-running c = running-below

pub returns-clause-enters : goal.returns-clause-enters
returns-clause-enters c = entered-below

pub returns-clause-entered : goal.returns-clause-entered
returns-clause-entered c = entered-by
