use Rattle.com_laws_query.proofs.Answers.{legal-refused}
use Rattle.com_laws_query.proofs.refused_rightly.Goals as goal

pub returns : goal.returns
returns c = legal-refused
