use Rattle.std.specs.Arc.{arc_value}
use Rattle.com_command_replay.proofs.Histories.{history_faults, history_wants}
use Rattle.com_command_replay.proofs.command.write_history.Goals as goal

pub returns-in-Err-WriteFault-clause-answered : goal.returns-in-Err-WriteFault-clause-answered
returns-in-Err-WriteFault-clause-answered g c =
    history_faults (arc_value c.args.scenario) (g.K.Sink.held c.args.sink.now) (g.K.Sink.held c.replay.new.sink)
    (g.K.Sink.faults_of c.args.sink.now) (g.K.Sink.faults_of c.replay.new.sink)
    (c.in-Err-WriteFault.ensures.fault (cc (c.in-Err-WriteFault.field-0-is)))
    c.in-Err-WriteFault.ensures.prefix

pub returns-in-Err-Memory-clause-answered : goal.returns-in-Err-Memory-clause-answered
returns-in-Err-Memory-clause-answered g c =
    history_wants (arc_value c.args.scenario) (g.K.Sink.held c.args.sink.now) (g.K.Sink.held c.replay.new.sink)
    (g.K.Sink.faults_of c.args.sink.now) (g.K.Sink.faults_of c.replay.new.sink)
    c.in-Err-Memory.ensures.prefix
