use Rattle.std.proofs.Common.{◌≡◌, ◌++◌, arith, refl, rules, subst}
use Rattle.std.proofs.lemmas.Grind.{common_steps}
use Rattle.std.specs.Arc.{arc_value}
use Rattle.std.specs.Prelude.{codes}
use Rattle.com_check.specs.declared.agreement.traces.Trace.{Trace}
use Rattle.com_check.specs.Agreeing.{IsRead}
use Rattle.com_command_migrate.specs.Moving.{trace_text}
use Rattle.com_command_migrate.proofs.Moves.{is_carried}
use Rattle.com_command_migrate.proofs.answers.move_trace.Goals as goal

pub returns-in_ok-push_trace-in-Agrees : goal.returns-in_ok-push_trace-in-Agrees
returns-in_ok-push_trace-in-Agrees c =
    let same : arc_value c.in_ok-scenario.scenario ≡ c.args.scenario = first_of (search rules, grind (arith, common_steps)) in
    let written : c.push_trace.new.out ≡ (c.args.text ++ codes "trace\n") ++ trace_text c.in-Agrees.agreed = first_of (search rules, grind (arith, common_steps)) in
    is_carried c.args.scenario (arc_value c.in_ok-scenario.scenario) c.args.trace.now c.args.text c.in-Agrees.agreed _ same c.requires.formed c.requires.short
    (subst (λ (t : Trace). IsRead (arc_value c.in_ok-scenario.scenario) c.args.trace.now t) c.in-Agrees.is c.in_ok-agreed.ensures) refl written
