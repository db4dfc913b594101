use Rattle.com_laws_lines.proofs.Lines.{legal-lines}
use Rattle.com_laws_lines.proofs.as_many_lines.Goals as goal

pub returns : goal.returns
returns c = legal-lines
