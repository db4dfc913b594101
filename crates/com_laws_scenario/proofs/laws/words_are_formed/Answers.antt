use Rattle.com_laws_scenario.proofs.Words.{lines_formed}
use Rattle.com_laws_scenario.proofs.laws.words_are_formed.Goals as goal

pub returns : goal.returns
returns c = lines_formed
