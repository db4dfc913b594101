use Rattle.com_laws_safe.proofs.One.{scheduled-one}
use Rattle.com_laws_safe.proofs.written.one_history.Goals as goal

pub returns : goal.returns
returns c = scheduled-one
