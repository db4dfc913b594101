use Rattle.com_turns.proofs.BodyLemmas.{steps_are}
use Rattle.com_turns.proofs.acting.laws.steps_are_outcomes.Goals as goal

pub returns : goal.returns
returns c = steps_are
