use Rattle.std.proofs.Common.{subst}
use Rattle.std.specs.Prelude.{◌∷◌}
use Rattle.com_model.specs.State.{State, LanesStand, ApartmentsStand, ObjectsStand, CallsStand, AnswersStand}
use Rattle.com_model.proofs.Rowed.{after-rows}
use Rattle.com_model.proofs.Stands.{apartments-after, clock-after}
use Rattle.com_model.proofs.Lanes.{lanes-after}
use Rattle.com_model.proofs.Rows.{objects-after, calls-after, entries-after}
use Rattle.com_model.proofs.Replies.{answers-after}
use Rattle.com_model.proofs.laws.tables_stand.Goals as goal

pub returns-clause-lanes : goal.returns-clause-lanes
returns-clause-lanes c = λ s st h l d n p. subst (λ (x : State). LanesStand s x (record { lane = l; deed = d } ∷ h)) (after-rows s st l d) (lanes-after s st h l d n p)

pub returns-clause-apartments : goal.returns-clause-apartments
returns-clause-apartments c = λ s st h l d p. subst (λ (x : State). ApartmentsStand x (record { lane = l; deed = d } ∷ h)) (after-rows s st l d) (apartments-after s st h l d p)

pub returns-clause-clock : goal.returns-clause-clock
returns-clause-clock c = clock-after

pub returns-clause-objects : goal.returns-clause-objects
returns-clause-objects c = λ s st h l d q p. subst (λ (x : State). ObjectsStand x (record { lane = l; deed = d } ∷ h)) (after-rows s st l d) (objects-after s st h l d q p)

pub returns-clause-calls : goal.returns-clause-calls
returns-clause-calls c = λ s st h l d q a z p. subst (λ (x : State). CallsStand x (record { lane = l; deed = d } ∷ h)) (after-rows s st l d) (calls-after s st h l d q a z p)

pub returns-clause-entries : goal.returns-clause-entries
returns-clause-entries c = entries-after

pub returns-clause-answers : goal.returns-clause-answers
returns-clause-answers c = λ s st h l d q p. subst (λ (x : State). AnswersStand s x (record { lane = l; deed = d } ∷ h)) (after-rows s st l d) (answers-after s st h l d q p)
