use Rattle.com_runtime.proofs.Taken.{fitting-job, job-steps}
use Rattle.com_runtime.proofs.laws.fitting_jobs_step.Goals as goal

pub returns-clause-job : goal.returns-clause-job
returns-clause-job c = fitting-job

pub returns-clause-step : goal.returns-clause-step
returns-clause-step c = job-steps
