use Rattle.com_laws_lines.proofs.Bites.{legal-three, two-lines-bite}
use Rattle.com_laws_lines.proofs.breaks_bite.Goals as goal

pub returns : goal.returns
returns c = (legal-three, two-lines-bite)
