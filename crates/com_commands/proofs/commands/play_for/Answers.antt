use Rattle.std.proofs.Common.{subst}
use Rattle.com_commands.specs.Responses.{IsAnswered}
use Rattle.com_commands.proofs.Answering.{answered_causes, answered_serves}
use Rattle.com_commands.proofs.commands.play_for.Goals as goal

pub returns-in-Ok-clause-answers : goal.returns-in-Ok-clause-answers
returns-in-Ok-clause-answers g c =
    answered_causes _ _ c.in-Ok.read c.play.result _ c.in-Ok.ensures.read c.in-Ok.ensures.end
    (g.met.C.PlayingCommand.concludes c.in-Ok.read)
    (subst
    (λ k. IsAnswered (g.C.PlayingCommand.fits c.in-Ok.read) c.play.result (g.K.Sink.held k) (g.K.Sink.held c.play.new.sink)
    (g.K.Sink.faults_of k) (g.K.Sink.faults_of c.play.new.sink))
    c.in-Ok.ensures.kept c.play.ensures.answered)

pub returns-in-Ok-clause-served : goal.returns-in-Ok-clause-served
returns-in-Ok-clause-served g c =
    answered_serves _ g.C.PlayingCommand.fits g.C.PlayingCommand.served c.in-Ok.read c.play.result _ _ _ c.in-Ok.ensures.read
    (subst
    (λ k. IsAnswered (g.C.PlayingCommand.fits c.in-Ok.read) c.play.result (g.K.Sink.held k) (g.K.Sink.held c.play.new.sink)
    (g.K.Sink.faults_of k) (g.K.Sink.faults_of c.play.new.sink))
    c.in-Ok.ensures.kept c.play.ensures.answered)
    c.play.ensures.served
