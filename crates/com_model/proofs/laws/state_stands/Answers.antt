use Rattle.std.proofs.Common.{subst}
use Rattle.std.specs.Prelude.{◌∷◌}
use Rattle.com_model.specs.State.{State, StandsFor}
use Rattle.com_model.proofs.Rowed.{after-rows}
use Rattle.com_model.proofs.Whole.{first-stands, whole-after}
use Rattle.com_model.proofs.Kept.{legal-bounded}
use Rattle.com_model.proofs.laws.state_stands.Goals as goal

pub returns-clause-first : goal.returns-clause-first
returns-clause-first c = first-stands

pub returns-clause-bounded : goal.returns-clause-bounded
returns-clause-bounded c = legal-bounded

pub returns-clause-later : goal.returns-clause-later
returns-clause-later c = λ s st h l d f q p. subst (λ (x : State). StandsFor s x (record { lane = l; deed = d } ∷ h)) (after-rows s st l d) (whole-after s st h l d q (legal-bounded s (record { lane = l; deed = d } ∷ h) f q) p)
