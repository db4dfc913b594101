use Rattle.com_laws_safe.proofs.Fixes.{legal-fixed}
use Rattle.com_laws_safe.proofs.written.text_fixes.Goals as goal

pub returns : goal.returns
returns c = legal-fixed
