-- The schedule's history is the one history of its scenario.
use Rattle.std.specs.Prelude.{refl}
use Rattle.com_model.specs.declared.scenario.Scenario.{Scenario}
use Rattle.com_model.specs.Ends.{scheduled}
use Rattle.com_model.specs.Formed.{Formed}
use Rattle.com_laws_safe.proofs.Whole.{legal-safe}
use Rattle.com_laws_safe.specs.OneHistory.{OneHistory}
use Rattle.com_laws_safe.proofs.Fixes.{legal-fixed}
use Rattle.com_laws_safe.proofs.Schedule.{LegalEnd, legal-end}

pub scheduled-one : (s : Scenario) → Formed s → OneHistory s (scheduled s)
scheduled-one s f =
    let e : LegalEnd s (scheduled s) = legal-end s in
    record {
      schedules = refl;
      lawful = e.0;
      ends = e.1;
      safe = legal-safe s (scheduled s) f e.0;
      alone = λ g q z. legal-fixed s g (scheduled s) f q e.0 z;
    }
