use Rattle.com_laws_safety.proofs.Released.{legal-released}
use Rattle.com_laws_safety.proofs.released_once.Goals as goal

pub returns : goal.returns
returns c = legal-released
