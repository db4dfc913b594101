use Rattle.com_waits.proofs.Seen.{calls-wait}
use Rattle.com_waits.proofs.laws.calls_wait.Goals as goal

pub returns : goal.returns
returns c = calls-wait
