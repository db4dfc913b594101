use Rattle.com_laws_faults.proofs.Laws.{stays, hopeless, one}
use Rattle.com_laws_faults.proofs.faults_stay.Goals as goal

pub returns : goal.returns
returns c = record { stay = stays; hopeless = hopeless; one = one }
