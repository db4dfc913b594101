use Rattle.com_state.proofs.AtRest.{rests}
use Rattle.com_state.proofs.Settles.{settled-stands}
use Rattle.com_state.proofs.laws.rests.Goals as goal

pub returns-clause-history : goal.returns-clause-history
returns-clause-history c = rests

pub returns-clause-state : goal.returns-clause-state
returns-clause-state c = settled-stands
