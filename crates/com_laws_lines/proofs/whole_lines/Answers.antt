use Rattle.com_laws_lines.proofs.Lines.{legal-whole}
use Rattle.com_laws_lines.proofs.whole_lines.Goals as goal

pub returns : goal.returns
returns c = legal-whole
