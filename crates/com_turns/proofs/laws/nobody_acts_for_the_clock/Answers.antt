use Rattle.std.proofs.Common.{refl}
use Rattle.com_turns.proofs.Stands.{clock_acting, clock_step}
use Rattle.com_turns.proofs.laws.nobody_acts_for_the_clock.Goals as goal

pub returns-clause-acting : goal.returns-clause-acting
returns-clause-acting c = clock_acting

pub returns-clause-step : goal.returns-clause-step
returns-clause-step c = clock_step

pub returns-clause-issued : goal.returns-clause-issued
returns-clause-issued c = λ w b t. refl

pub returns-clause-carried : goal.returns-clause-carried
returns-clause-carried c = λ w b t. refl
