use Rattle.std.proofs.Common.{◌≡◌, IfOk, arith, rules, subst}
use Rattle.std.proofs.lemmas.Grind.{common_steps}
use Rattle.std.specs.Arc.{arc_value}
use Rattle.com_model.specs.declared.scenario.Scenario.{Scenario}
use Rattle.com_check.specs.Judging.{IsJudged}
use Rattle.com_check.proofs.check_shared.Goals as goal

pub returns : goal.returns
returns c =
    let seen : c.deref.result.now ≡ arc_value c.args.scenario.now = first_of (search rules, grind (arith, common_steps)) in
    subst (λ (s : Scenario). IfOk c.judge_on-judged.result (λ j. IsJudged s c.args.trace.now j)) seen c.judge_on-judged.ensures
