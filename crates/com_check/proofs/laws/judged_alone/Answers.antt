use Rattle.com_check.proofs.Alone.{judged_alone}
use Rattle.com_check.proofs.laws.judged_alone.Goals as goal

pub returns : goal.returns
returns c = judged_alone
