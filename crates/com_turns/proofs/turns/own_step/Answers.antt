use Rattle.std.proofs.Common.{◌≡◌, sym, ◌∙◌}
use Rattle.com_turns.specs.Turns.{script_seen}
use Rattle.com_turns.proofs.Stepping.{over_rules, rule_turn, script_steps, step_next, taken_is, thread_above, thread_below, turns_in}
use Rattle.com_turns.proofs.turns.own_step.Goals as goal

pub script_step-requires-clause-above : goal.script_step-requires-clause-above
script_step-requires-clause-above g c =
    thread_above c.args.view.now.scenario c.args.lane (turns_in c.args.view.now (g.B.References.books c.args.books.now) c.args.lane c.requires.script).thread

pub script_step-requires-clause-below : goal.script_step-requires-clause-below
script_step-requires-clause-below g c =
    thread_below c.args.view.now.scenario c.args.lane (turns_in c.args.view.now (g.B.References.books c.args.books.now) c.args.lane c.requires.script).thread

pub step_turn-requires-clause-steps : goal.step_turn-requires-clause-steps
step_turn-requires-clause-steps g c =
    let b = g.B.References.books c.args.books.now in
    let e : c.in-Some.outcome ≡ script_seen c.args.view.now c.args.lane = taken_is _ _ (sym c.in-Some.is ∙ c.in_ok-script_step.ensures.outcome) in
    script_steps c.args.view.now c.args.lane c.in-Some.outcome (turns_in c.args.view.now b c.args.lane c.requires.script)
    e (sym c.is_leave.ensures ∙ c.if-is_leave.false)

pub step_turn-requires-clause-next : goal.step_turn-requires-clause-next
step_turn-requires-clause-next g c =
    let b = g.B.References.books c.args.books.now in
    let e : c.in-Some.outcome ≡ script_seen c.args.view.now c.args.lane = taken_is _ _ (sym c.in-Some.is ∙ c.in_ok-script_step.ensures.outcome) in
    step_next c.args.view.now b c.args.lane c.in-Some.outcome c.requires.script c.requires.no_final
    (script_steps c.args.view.now c.args.lane c.in-Some.outcome (turns_in c.args.view.now b c.args.lane c.requires.script)
    e (sym c.is_leave.ensures ∙ c.if-is_leave.false))

pub returns-then-is_leave-clause-turn : goal.returns-then-is_leave-clause-turn
returns-then-is_leave-clause-turn g c =
    let b = g.B.References.books c.args.books.now in
    let e : c.in-Some.outcome ≡ script_seen c.args.view.now c.args.lane = taken_is _ _ (sym c.in-Some.is ∙ c.in_ok-script_step.ensures.outcome) in
    rule_turn c.args.view.now b c.args.lane c.script_over.result c.by_rule.result
    (over_rules c.args.view.now b c.args.lane c.in-Some.outcome c.script_over.result c.requires.script c.requires.no_final
    e (sym c.is_leave.ensures ∙ c.if-is_leave.true) (c.script_over.ensures b))
    c.by_rule.ensures.deed c.by_rule.ensures.acting c.by_rule.ensures.enclosed c.by_rule.ensures.carried
