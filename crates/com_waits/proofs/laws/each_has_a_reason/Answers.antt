use Rattle.com_waits.proofs.Served.{has-reasons}
use Rattle.com_waits.proofs.laws.each_has_a_reason.Goals as goal

pub returns : goal.returns
returns c = has-reasons
