-- The stricter clauses in one.
use Rattle.std.specs.Prelude.{List}
use Rattle.com_model.specs.declared.deeds.Entry.{Entry}
use Rattle.com_model.specs.declared.scenario.Scenario.{Scenario}
use Rattle.com_model.specs.Rules.{legal}
use Rattle.com_model.specs.Formed.{Formed}
use Rattle.com_laws_safe.specs.Stricter.{Stricter}
use Rattle.com_laws_safe.proofs.Strict.{legal-targets, legal-drops, legal-away}
use Rattle.com_laws_safe.proofs.Reports.{legal-reports}

pub legal-stricter : (s : Scenario) (h : List Entry) → Formed s → legal s h → Stricter s h
legal-stricter s h f q = record {
  targets = legal-targets s h q;
  drops = legal-drops s h q;
  turned_away = legal-away s h f q;
  reports = legal-reports s h f q;
}
