use Rattle.com_laws_status.proofs.Statuses.{migrated-done, migrated-differs}
use Rattle.com_laws_status.proofs.migrate_statuses.Goals as goal

pub returns-clause-done : goal.returns-clause-done
returns-clause-done c = migrated-done

pub returns-clause-differs : goal.returns-clause-differs
returns-clause-differs c = migrated-differs
