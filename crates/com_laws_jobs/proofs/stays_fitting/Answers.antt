use Rattle.com_laws_jobs.proofs.Unmoved.{still-fits}
use Rattle.com_laws_jobs.proofs.stays_fitting.Goals as goal

pub returns : goal.returns
returns c = still-fits
