use Rattle.com_laws_jobs.proofs.Unmoved.{still-fresh}
use Rattle.com_laws_jobs.proofs.sta_stays_fresh.Goals as goal

pub returns : goal.returns
returns c = still-fresh
