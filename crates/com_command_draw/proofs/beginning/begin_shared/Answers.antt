-- The scenario that is shared is the one that is drawn.
use Rattle.std.proofs.Common.{◌≡◌, IfOk, reverse, subst, true}
use Rattle.com_model.specs.declared.scenario.Scenario.{Scenario}
use Rattle.com_model.specs.Ends.{scheduled}
use Rattle.com_command_draw.specs.Begun.{IsBegun}
use Rattle.com_command_draw.proofs.beginning.begin_shared.Goals as goal

pub returns-clause-begun : goal.returns-clause-begun
returns-clause-begun g c = subst (λ (s : Scenario). IfOk c.begin_by-begun.result (λ begun. IsBegun s begun.0)) c.deref.ensures c.begin_by-begun.ensures.begun

pub returns-clause-kept : goal.returns-clause-kept
returns-clause-kept g c =
    subst (λ (s : Scenario). IfOk c.begin_by-begun.result (λ begun. c.args.is_kept ≡ true → reverse begun.1.items ≡ scheduled s)) c.deref.ensures c.begin_by-begun.ensures.kept
