use Rattle.com_laws_safety.proofs.OnTop.{legal-on-top}
use Rattle.com_laws_safety.proofs.made_on_top.Goals as goal

pub returns : goal.returns
returns c = legal-on-top
