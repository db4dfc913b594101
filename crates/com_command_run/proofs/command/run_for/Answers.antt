use Rattle.std.proofs.Common.{subst}
use Rattle.com_commands.specs.Statuses.{Says}
use Rattle.com_command_run.proofs.Running.{run_causes, run_unwritten}
use Rattle.com_command_run.proofs.command.run_for.Goals as goal

pub returns-in-Ok-reply-clause-answers : goal.returns-in-Ok-reply-clause-answers
returns-in-Ok-reply-clause-answers g c =
    run_causes c.in-Ok.scenario c.say.result c.in-Ok-reply.reply.status c.in-Ok-reply.reply.text c.as_slice.result.now _ c.in-Ok.ensures.read
    c.in-Ok.ensures.end c.in-Ok-reply.ensures c.as_slice.ensures
    (subst
    (λ k. Says c.say.result c.in-Ok-reply.reply.status c.as_slice.result.now (g.K.Sink.held k) (g.K.Sink.held c.say.new.sink)
    (g.K.Sink.faults_of k) (g.K.Sink.faults_of c.say.new.sink))
    c.in-Ok.ensures.kept c.say.ensures.said)

pub returns-in-Ok-reply-clause-unwritten : goal.returns-in-Ok-reply-clause-unwritten
returns-in-Ok-reply-clause-unwritten g c wants =
    run_unwritten c.in-Ok.scenario c.say.result c.in-Ok-reply.reply.status c.in-Ok-reply.reply.text c.as_slice.result.now _ _ _ _ c.in-Ok-reply.ensures
    (subst
    (λ k. Says c.say.result c.in-Ok-reply.reply.status c.as_slice.result.now (g.K.Sink.held k) (g.K.Sink.held c.say.new.sink)
    (g.K.Sink.faults_of k) (g.K.Sink.faults_of c.say.new.sink))
    c.in-Ok.ensures.kept c.say.ensures.said)
    wants
