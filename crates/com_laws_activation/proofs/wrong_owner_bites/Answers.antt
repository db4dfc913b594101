use Rattle.com_laws_activation.proofs.Bites.{legal-one, owner-bites}
use Rattle.com_laws_activation.proofs.wrong_owner_bites.Goals as goal

pub returns : goal.returns
returns c = (legal-one, owner-bites)
