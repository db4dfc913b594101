use Rattle.std.proofs.Common.{List, ℕ, subst, sym}
use Rattle.com_commands.specs.Statuses.{Says}
use Rattle.com_commands.proofs.Answering.{said_causes}
use Rattle.com_commands.proofs.commands.reply_to.Goals as goal

pub returns-in-Ok-reply-clause-answers : goal.returns-in-Ok-reply-clause-answers
returns-in-Ok-reply-clause-answers g c =
    said_causes _ _ c.in-Ok.read c.say.result c.in-Ok-reply.reply.status c.as_slice.result.now _ c.in-Ok.ensures.read c.in-Ok.ensures.end
    (g.met.C.ReplyingCommand.concludes c.in-Ok.read)
    (subst (λ (t : List ℕ). g.C.ReplyingCommand.fits c.in-Ok.read c.in-Ok-reply.reply.status t) (sym c.as_slice.ensures) c.in-Ok-reply.ensures)
    (subst
    (λ k. Says c.say.result c.in-Ok-reply.reply.status c.as_slice.result.now (g.K.Sink.held k) (g.K.Sink.held c.say.new.sink)
    (g.K.Sink.faults_of k) (g.K.Sink.faults_of c.say.new.sink))
    c.in-Ok.ensures.kept c.say.ensures.said)
