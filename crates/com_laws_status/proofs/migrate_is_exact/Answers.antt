use Rattle.com_laws_status.proofs.Exactly.{migrate-exact}
use Rattle.com_laws_status.proofs.migrate_is_exact.Goals as goal

pub returns : goal.returns
returns c = migrate-exact
