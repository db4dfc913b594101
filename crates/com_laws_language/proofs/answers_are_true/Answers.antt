use Rattle.com_laws_language.proofs.Laws.{answered, taken}
use Rattle.com_laws_language.proofs.answers_are_true.Goals as goal

pub returns : goal.returns
returns c = record { answers = answered; taken = taken }
