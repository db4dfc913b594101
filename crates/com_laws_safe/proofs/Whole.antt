-- The seven clauses in one.
use Rattle.std.specs.Prelude.{List}
use Rattle.com_model.specs.declared.deeds.Entry.{Entry}
use Rattle.com_model.specs.declared.scenario.Scenario.{Scenario}
use Rattle.com_model.specs.Rules.{legal}
use Rattle.com_model.specs.Safe.{Safe}
use Rattle.com_model.specs.Formed.{Formed}
use Rattle.com_laws_balance.proofs.Laws.{legal-balance}
use Rattle.com_laws_safety.proofs.Caused.{legal-causes, legal-replies}
use Rattle.com_laws_safety.proofs.Ready.{legal-apartment, legal-one-stack}
use Rattle.com_laws_safety.proofs.Reentered.{legal-reentry}
use Rattle.com_laws_release.proofs.Laws.{legal-release}

pub legal-safe : (s : Scenario) (h : List Entry) → Formed s → legal s h → Safe s h
legal-safe s h f q = record {
  apartment = legal-apartment s h f q;
  one_stack = legal-one-stack s h f q;
  reentry = legal-reentry s h q;
  once = legal-replies s h q;
  balance = legal-balance s h f q;
  release = legal-release s h f q;
  causes = legal-causes s h q;
}
