use Rattle.com_laws_query.proofs.Answers.{legal-answers}
use Rattle.com_laws_query.proofs.queries_answer.Goals as goal

pub returns : goal.returns
returns c = legal-answers
