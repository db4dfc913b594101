use Rattle.std.proofs.Common.{◌≡◌, Option, Some, subst, sym}
use Rattle.com_body.specs.declared.frame.Outcome.{Outcome}
use Rattle.com_turns.specs.Turns.{IsTurn}
use Rattle.com_model.specs.Rules.{rule_final}
use Rattle.com_view.specs.Seen.{sight_by}
use Rattle.com_turns.proofs.Stepping.{final_rules, rule_turn}
use Rattle.com_turns.proofs.turns.script_turn.Goals as goal

pub own_step-requires-clause-no_final : goal.own_step-requires-clause-no_final
own_step-requires-clause-no_final g c =
    let e = c.finals.ensures (g.B.References.books c.args.books.now) in cc

pub returns-in-Some-clause-turn : goal.returns-in-Some-clause-turn
returns-in-Some-clause-turn g c =
    let b = g.B.References.books c.args.books.now in
    let f : rule_final (sight_by c.args.view.now b) c.args.lane ≡ Some c.in-Some.deed = let e = c.finals.ensures b in cc in
    subst (λ (r : Option Outcome). IsTurn c.args.view.now b c.args.lane r c.by_rule.result) (sym c.requires.none)
    (rule_turn c.args.view.now b c.args.lane c.in-Some.deed c.by_rule.result (final_rules c.args.view.now b c.args.lane c.in-Some.deed c.requires.script f)
    c.by_rule.ensures.deed c.by_rule.ensures.acting c.by_rule.ensures.enclosed c.by_rule.ensures.carried)
