use Rattle.std.proofs.Common.{subst}
use Rattle.com_commands.specs.declared.statuses.Status.TheVariants as status
use Rattle.com_commands.specs.Statuses.{Says}
use Rattle.com_top.proofs.Explained.{explained_causes, explained_serves}
use Rattle.com_top.proofs.waits.answer.Goals as goal

pub returns-in-Ok-explanation-clause-answers : goal.returns-in-Ok-explanation-clause-answers
returns-in-Ok-explanation-clause-answers g c =
    explained_causes c.in-Ok.scenario c.say.result c.in-Ok-explanation.text c.as_slice.result.now _ c.in-Ok.ensures.read c.in-Ok.ensures.end
    c.in-Ok-explanation.ensures.text c.as_slice.ensures
    (subst
    (λ k. Says c.say.result status.Done c.as_slice.result.now (g.K.Sink.held k) (g.K.Sink.held c.say.new.sink)
    (g.K.Sink.faults_of k) (g.K.Sink.faults_of c.say.new.sink))
    c.in-Ok.ensures.kept c.say.ensures.said)

pub returns-in-Ok-explanation-clause-served : goal.returns-in-Ok-explanation-clause-served
returns-in-Ok-explanation-clause-served g c =
    explained_serves c.in-Ok.scenario c.say.result c.in-Ok-explanation.text c.as_slice.result.now _ _ _ c.in-Ok.ensures.read
    c.in-Ok-explanation.ensures.text c.as_slice.ensures
    (subst
    (λ k. Says c.say.result status.Done c.as_slice.result.now (g.K.Sink.held k) (g.K.Sink.held c.say.new.sink)
    (g.K.Sink.faults_of k) (g.K.Sink.faults_of c.say.new.sink))
    c.in-Ok.ensures.kept c.say.ensures.said)
    c.in-Ok-explanation.ensures.served
