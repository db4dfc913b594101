use Rattle.com_laws_answers.proofs.Lives.{held-live, released-dead}
use Rattle.com_laws_answers.proofs.connections_end.Goals as goal

pub returns-clause-held : goal.returns-clause-held
returns-clause-held c = held-live

pub returns-clause-released : goal.returns-clause-released
returns-clause-released c = released-dead
