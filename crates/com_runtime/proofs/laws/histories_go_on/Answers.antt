use Rattle.com_runtime.proofs.Resting.{reached_by}
use Rattle.com_runtime.proofs.Taken.{legal-next, stands-next}
use Rattle.com_runtime.proofs.laws.histories_go_on.Goals as goal

pub returns-clause-reached : goal.returns-clause-reached
returns-clause-reached c = reached_by

pub returns-clause-legal : goal.returns-clause-legal
returns-clause-legal c = legal-next

pub returns-clause-stands : goal.returns-clause-stands
returns-clause-stands c = stands-next
