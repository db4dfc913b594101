use Rattle.com_laws_faults.proofs.Laws.{known, shared, barred}
use Rattle.com_laws_faults.proofs.faults_come_first.Goals as goal

pub returns : goal.returns
returns c = record { known = known; shared = shared; barred = barred }
