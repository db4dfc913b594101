use Rattle.com_waits.proofs.Seen.{pool-exhausts, rings-exhaust}
use Rattle.com_waits.proofs.Served.{calls-exhaust}
use Rattle.com_waits.proofs.laws.the_pool_is_exhausted.Goals as goal

pub returns-clause-waits : goal.returns-clause-waits
returns-clause-waits c = λ s h f p t. pool-exhausts s h p t

pub returns-clause-cycles : goal.returns-clause-cycles
returns-clause-cycles c = rings-exhaust

pub returns-clause-calls : goal.returns-clause-calls
returns-clause-calls c = calls-exhaust
