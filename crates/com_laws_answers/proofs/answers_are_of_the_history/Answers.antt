use Rattle.com_laws_answers.proofs.Standing.{answered}
use Rattle.com_laws_answers.proofs.answers_are_of_the_history.Goals as goal

pub returns : goal.returns
returns c = answered
