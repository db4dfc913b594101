use Rattle.com_laws_ended.proofs.Bites.{legal-whole, going-on-bites}
use Rattle.com_laws_ended.proofs.going_on_bites.Goals as goal

pub returns : goal.returns
returns c = (legal-whole, going-on-bites)
