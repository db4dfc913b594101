-- A scenario that was read is formed.
use Rattle.std.proofs.Common.{subst}
use Rattle.std.specs.Prelude.{◌≡◌, Result, Ok, IfOk}
use Rattle.com_model.specs.Formed.{Formed}
use Rattle.com_command_migrate.specs.declared.inputs.Moving.{Moving}

pub is_formed : {E : Type 0} (read : Result Moving E) (m : Moving) → read ≡ Ok m → IfOk read (λ (x : Moving). Formed x.scenario)
    → Formed m.scenario
is_formed {E} read m e f = subst (λ (r : Result Moving E). IfOk r (λ (x : Moving). Formed x.scenario)) e f
