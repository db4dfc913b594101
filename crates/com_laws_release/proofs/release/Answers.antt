use Rattle.com_laws_release.proofs.Laws.{legal-release}
use Rattle.com_laws_release.proofs.release.Goals as goal

pub returns : goal.returns
returns c = legal-release
