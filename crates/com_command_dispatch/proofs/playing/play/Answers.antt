use Rattle.std.proofs.Common.{◌∙◌, ap}
use Rattle.std.specs.Arc.{arc_value}
use Rattle.com_command_dispatch.specs.Lines.{bindings_text}
use Rattle.com_command_dispatch.proofs.Answering.{answered_behind, lines_fault}
use Rattle.com_command_dispatch.proofs.playing.play.Goals as goal

pub returns-in-Ok-write_all-clause-answered : goal.returns-in-Ok-write_all-clause-answered
returns-in-Ok-write_all-clause-answered g c =
    answered_behind c.args.read c.as_slice-2.result.now (arc_value c.in-Ok-share.scenario) c.write_history.result
    (g.K.Sink.held c.args.sink.now) (g.K.Sink.held c.write_all.new.sink) (g.K.Sink.held c.write_history.new.sink)
    (g.K.Sink.faults_of c.args.sink.now) (g.K.Sink.faults_of c.write_all.new.sink) (g.K.Sink.faults_of c.write_history.new.sink)
    (c.as_slice-2.ensures ∙ c.in-Ok.ensures ∙ ap bindings_text c.as_slice.ensures)
    c.in-Ok-share.ensures
    c.in-Ok-write_all.ensures.ok
    c.in-Ok-write_all.ensures.counts
    c.write_history.ensures.answered

pub returns-clause-answered : goal.returns-clause-answered
returns-clause-answered g c =
    lines_fault c.args.read c.as_slice-2.result.now
    (g.K.Sink.held c.args.sink.now) (g.K.Sink.held c.write_all.new.sink)
    (g.K.Sink.faults_of c.args.sink.now) (g.K.Sink.faults_of c.write_all.new.sink)
    (c.as_slice-2.ensures ∙ c.in-Ok.ensures ∙ ap bindings_text c.as_slice.ensures)
    c.in-Err.ensures.failed
    c.in-Err.ensures.prefix
