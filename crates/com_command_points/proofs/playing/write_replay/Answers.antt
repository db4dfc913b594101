use Rattle.std.proofs.Common.{◌≡◌, Some, subst, sym}
use Rattle.std.specs.Arc.{arc_value}
use Rattle.com_deliveries.specs.Tables.{AreSources}
use Rattle.com_model.specs.declared.scenario.Scenario.{Scenario}
use Rattle.com_model.specs.Ends.{ended_as, scheduled}
use Rattle.com_model.specs.Formed.{Formed}
use Rattle.com_command_points.specs.Playing.{AreLines}
use Rattle.com_command_points.proofs.Answered.{recorded_ends, recorded_lines}
use Rattle.com_command_points.proofs.playing.write_replay.Goals as goal

pub returns-clause-ends : goal.returns-clause-ends
returns-clause-ends g c =
    subst (λ (s : Scenario). ended_as s (scheduled s) ≡ Some c.in_ok-recorded.recorded.ended) c.in_ok-scenario.ensures
    (recorded_ends (arc_value c.in_ok-scenario.scenario) c.in_ok-recorded.recorded.entries.items c.in_ok-recorded.recorded.ended c.in_ok-recorded.ensures.kept)

pub returns-clause-lines : goal.returns-clause-lines
returns-clause-lines g c =
    subst (λ (s : Scenario). AreLines s (scheduled s) c.in_ok-lines.lines) c.in_ok-scenario.ensures
    (recorded_lines (arc_value c.in_ok-scenario.scenario) c.args.table.now c.in_ok-recorded.recorded.entries.items c.as_slice.result.now c.in_ok-recorded.recorded.ended c.in_ok-lines.lines
    c.as_slice.ensures.value c.in_ok-recorded.ensures.kept
    (subst (λ (s : Scenario). AreSources s c.args.table.now) (sym c.in_ok-scenario.ensures) c.requires.sources)
    (subst (λ (s : Scenario). Formed s) (sym c.in_ok-scenario.ensures) c.requires.sound)
    c.in_ok-lines.ensures)
