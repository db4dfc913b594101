use Rattle.com_laws_status.proofs.Exactly.{check-exact}
use Rattle.com_laws_status.proofs.check_is_exact.Goals as goal

pub returns : goal.returns
returns c = check-exact
