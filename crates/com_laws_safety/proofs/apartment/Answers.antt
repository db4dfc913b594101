use Rattle.com_laws_safety.proofs.Ready.{legal-apartment}
use Rattle.com_laws_safety.proofs.apartment.Goals as goal

pub returns : goal.returns
returns c = legal-apartment
