use Rattle.com_waits.proofs.Tops.{rings-reach}
use Rattle.com_waits.proofs.laws.cycles_reach_the_pool.Goals as goal

pub returns : goal.returns
returns c = rings-reach
