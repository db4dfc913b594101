use Rattle.std.proofs.Common.{List, ℕ, subst, sym}
use Rattle.com_commands.specs.Statuses.{Says}
use Rattle.com_commands.proofs.Answering.{answered_serves, said_answered, said_causes}
use Rattle.com_command_draw.proofs.frame.tell_for.Goals as goal

pub returns-in-Ok-tell-clause-answers : goal.returns-in-Ok-tell-clause-answers
returns-in-Ok-tell-clause-answers g c =
    said_causes _ _ c.in-Ok.read c.say.result c.in-Ok-tell.reply.status c.as_slice.result.now _ c.in-Ok.ensures.read c.in-Ok.ensures.end
    (g.met.C.TellingCommand.concludes c.in-Ok.read)
    (subst (λ (t : List ℕ). g.C.TellingCommand.fits c.in-Ok.read c.in-Ok-tell.reply.status t) (sym c.as_slice.ensures) c.in-Ok-tell.ensures.answer)
    (subst
    (λ k. Says c.say.result c.in-Ok-tell.reply.status c.as_slice.result.now (g.K.Sink.held k) (g.K.Sink.held c.say.new.sink)
    (g.K.Sink.faults_of k) (g.K.Sink.faults_of c.say.new.sink))
    c.in-Ok.ensures.kept c.say.ensures.said)

pub returns-in-Ok-tell-clause-served : goal.returns-in-Ok-tell-clause-served
returns-in-Ok-tell-clause-served g c =
    answered_serves _ g.C.TellingCommand.fits g.C.TellingCommand.served c.in-Ok.read c.say.result _ _ _ c.in-Ok.ensures.read
    (said_answered (g.C.TellingCommand.fits c.in-Ok.read) c.say.result c.in-Ok-tell.reply.status c.as_slice.result.now _ _ _ _
    (subst (λ (t : List ℕ). g.C.TellingCommand.fits c.in-Ok.read c.in-Ok-tell.reply.status t) (sym c.as_slice.ensures) c.in-Ok-tell.ensures.answer)
    (subst
    (λ k. Says c.say.result c.in-Ok-tell.reply.status c.as_slice.result.now (g.K.Sink.held k) (g.K.Sink.held c.say.new.sink)
    (g.K.Sink.faults_of k) (g.K.Sink.faults_of c.say.new.sink))
    c.in-Ok.ensures.kept c.say.ensures.said))
    (λ e. c.in-Ok-tell.ensures.served)
