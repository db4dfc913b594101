use Rattle.com_top.proofs.Loaded.{loaded_causes}
use Rattle.com_top.proofs.load.load.Goals as goal

pub returns-in-Ok-clause-answers : goal.returns-in-Ok-clause-answers
returns-in-Ok-clause-answers g c =
    loaded_causes g.K.Sink.held g.K.Sink.faults_of c.args.sink.now c.say.new.sink c.args.number c.say.result c.in-Ok.reply.status
    c.in-Ok.reply.text c.as_slice.result.now c.in-Ok.ensures.loaded c.as_slice.ensures c.say.ensures.said
