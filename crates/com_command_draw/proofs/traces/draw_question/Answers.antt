use Rattle.std.specs.Arc.{arc_value}
use Rattle.std.proofs.lemmas.List.{take_rest}
use Rattle.std.proofs.lemmas.Result.{IfOk-weaker}
use Rattle.com_command_draw.specs.Traces.{IsTraceAnswer}
use Rattle.com_command_draw.proofs.Answered.{agreed_of, agreed_short, differs_of, refuted_at, traced_at}
use Rattle.com_command_draw.proofs.traces.draw_question.Goals as goal

pub draw_agreed-requires-clause-few : goal.draw_agreed-requires-clause-few
draw_agreed-requires-clause-few c = agreed_short _ _ c.in_ok-read.read c.in-Agrees.agreed c.in-Agrees.is c.in_ok-read.ensures

pub returns-in-Agrees : goal.returns-in-Agrees
returns-in-Agrees c =
    traced_at c.args.question (arc_value c.in_ok-scenario.scenario) c.deref.result.now c.as_slice.result.now _ c.in-Agrees.agreed c.in_ok-page-in-Agrees.page
    c.in_ok-scenario.ensures c.deref.ensures c.as_slice.ensures (take_rest c.as_slice.result.now c.args.question.from)
    (agreed_of _ _ c.in_ok-read.read c.in-Agrees.agreed c.in-Agrees.is c.in_ok-read.ensures) c.in_ok-page-in-Agrees.ensures

pub returns : goal.returns
returns c =
    IfOk-weaker c.refute.result _ (λ reply. IsTraceAnswer c.args.question reply.status reply.text)
    (λ reply is. refuted_at c.args.question (arc_value c.in_ok-scenario.scenario) c.as_slice.result.now _ c.in-Differs.judged reply.status reply.text
    c.in_ok-scenario.ensures c.as_slice.ensures (take_rest c.as_slice.result.now c.args.question.from)
    (differs_of _ _ c.in_ok-read.read c.in-Differs.judged c.in-Differs.is c.in_ok-read.ensures) is.0 is.1)
    c.refute.ensures
