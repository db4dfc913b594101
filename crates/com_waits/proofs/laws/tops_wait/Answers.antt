use Rattle.com_waits.proofs.Tops.{tops-wait}
use Rattle.com_waits.proofs.laws.tops_wait.Goals as goal

pub returns : goal.returns
returns c = tops-wait
