use Rattle.com_scenario.proofs.Forms.{reading_formed}
use Rattle.com_scenario.proofs.laws.scenarios_are_formed.Goals as goal

pub returns : goal.returns
returns c = reading_formed
