use Rattle.com_laws_answers.proofs.Lives.{live-before}
use Rattle.com_laws_answers.proofs.connected_since_its_making.Goals as goal

pub returns : goal.returns
returns c = live-before
