use Rattle.com_laws_safety.proofs.Caused.{legal-causes}
use Rattle.com_laws_safety.proofs.causes.Goals as goal

pub returns : goal.returns
returns c = legal-causes
