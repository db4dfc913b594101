use Rattle.com_laws_safety.proofs.Released.{legal-bare}
use Rattle.com_laws_safety.proofs.bare_at_final.Goals as goal

pub returns : goal.returns
returns c = legal-bare
