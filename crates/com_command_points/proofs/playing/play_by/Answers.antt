use Rattle.std.proofs.Common.{ℕ, List, subst, sym}
use Rattle.com_commands.specs.declared.statuses.Status.{Status}
use Rattle.com_commands.specs.Statuses.{Says}
use Rattle.com_model.specs.Ends.{scheduled}
use Rattle.com_command_points.specs.Playing.{AreLines}
use Rattle.com_command_points.proofs.Answered.{played_said, played_fault, played_memory}
use Rattle.com_command_points.proofs.playing.play_by.Goals as goal

pub returns-in-Ok-clause-answered : goal.returns-in-Ok-clause-answered
returns-in-Ok-clause-answered g c =
    played_said c.args.scenario c.in-Ok.played.ended c.as_slice.result.now c.say.result
    (g.K.Sink.held c.args.sink.now) (g.K.Sink.held c.write_replay.new.sink) (g.K.Sink.held c.say.new.sink)
    (g.K.Sink.faults_of c.args.sink.now) (g.K.Sink.faults_of c.write_replay.new.sink) (g.K.Sink.faults_of c.say.new.sink)
    c.in-Ok.ensures.ends
    (subst (λ (t : List ℕ). AreLines c.args.scenario (scheduled c.args.scenario) t) (sym c.as_slice.ensures) c.in-Ok.ensures.lines)
    c.in-Ok.ensures.ok
    c.in-Ok.ensures.counts
    (subst
    (λ (x : Status). Says c.say.result x c.as_slice.result.now (g.K.Sink.held c.write_replay.new.sink) (g.K.Sink.held c.say.new.sink)
    (g.K.Sink.faults_of c.write_replay.new.sink) (g.K.Sink.faults_of c.say.new.sink))
    c.status_at.ensures c.say.ensures.said)

pub returns-in-Err-WriteFault-clause-answered : goal.returns-in-Err-WriteFault-clause-answered
returns-in-Err-WriteFault-clause-answered g c =
    played_fault c.args.scenario c.args.table.now (g.K.Sink.held c.args.sink.now) (g.K.Sink.held c.write_replay.new.sink)
    (g.K.Sink.faults_of c.args.sink.now) (g.K.Sink.faults_of c.write_replay.new.sink)
    c.requires.sources c.requires.sound
    (c.in-Err-WriteFault.ensures.fault (cc (c.in-Err-WriteFault.field-0-is)))
    c.in-Err-WriteFault.ensures.prefix

pub returns-in-Err-Memory-clause-answered : goal.returns-in-Err-Memory-clause-answered
returns-in-Err-Memory-clause-answered g c =
    played_memory c.args.scenario c.args.table.now (g.K.Sink.held c.args.sink.now) (g.K.Sink.held c.write_replay.new.sink)
    (g.K.Sink.faults_of c.args.sink.now) (g.K.Sink.faults_of c.write_replay.new.sink)
    c.requires.sources c.requires.sound
    c.in-Err-Memory.ensures.prefix
