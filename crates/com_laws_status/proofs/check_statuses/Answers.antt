use Rattle.com_laws_status.proofs.Statuses.{checked-done, checked-differs}
use Rattle.com_laws_status.proofs.check_statuses.Goals as goal

pub returns-clause-done : goal.returns-clause-done
returns-clause-done c = checked-done

pub returns-clause-differs : goal.returns-clause-differs
returns-clause-differs c = checked-differs
