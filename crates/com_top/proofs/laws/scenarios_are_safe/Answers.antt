use Rattle.com_top.proofs.Sound.{scenarios_are_safe}
use Rattle.com_top.proofs.laws.scenarios_are_safe.Goals as goal

pub returns : goal.returns
returns c = scenarios_are_safe
