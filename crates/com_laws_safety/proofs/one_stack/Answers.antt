use Rattle.com_laws_safety.proofs.Ready.{legal-one-stack}
use Rattle.com_laws_safety.proofs.one_stack.Goals as goal

pub returns : goal.returns
returns c = legal-one-stack
