use Rattle.std.proofs.Common.{◌≡◌, IfOk, arith, rules, subst}
use Rattle.std.proofs.lemmas.Grind.{common_steps}
use Rattle.std.specs.Arc.{arc_value}
use Rattle.com_model.specs.declared.scenario.Scenario.{Scenario}
use Rattle.com_replay.specs.Stuck.{explained_by}
use Rattle.com_replay.proofs.explained.explain_shared.Goals as goal

pub returns : goal.returns
returns c =
    let seen : c.deref.result.now ≡ arc_value c.args.scenario.now = first_of (search rules, grind (arith, common_steps)) in
    subst (λ (s : Scenario). IfOk c.explained_on-waits.result (λ waits. waits ≡ explained_by s c.args.history.now)) seen c.explained_on-waits.ensures
