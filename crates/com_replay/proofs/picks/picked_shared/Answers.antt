use Rattle.std.proofs.Common.{◌≡◌, IfOk, arith, rules, subst}
use Rattle.std.proofs.lemmas.Grind.{common_steps}
use Rattle.std.specs.Arc.{arc_value}
use Rattle.com_model.specs.declared.scenario.Scenario.{Scenario}
use Rattle.com_replay.specs.Picked.{IsPicked}
use Rattle.com_replay.proofs.picks.picked_shared.Goals as goal

pub returns : goal.returns
returns c =
    let seen : c.deref.result.now ≡ arc_value c.args.scenario.now =
    first_of (search rules, grind (arith, common_steps)) in
    subst (λ (s : Scenario). IfOk c.picked_on-entries.result (λ entries. IsPicked s c.args.picks.now entries.items))
    seen c.picked_on-entries.ensures
