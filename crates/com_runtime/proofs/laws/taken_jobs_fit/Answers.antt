use Rattle.com_runtime.proofs.Taken.{taken-fits, taken-fresh, taken-class}
use Rattle.com_runtime.proofs.laws.taken_jobs_fit.Goals as goal

pub returns-clause-fits : goal.returns-clause-fits
returns-clause-fits c = taken-fits

pub returns-clause-fresh : goal.returns-clause-fresh
returns-clause-fresh c = taken-fresh

pub returns-clause-class : goal.returns-clause-class
returns-clause-class c = taken-class
