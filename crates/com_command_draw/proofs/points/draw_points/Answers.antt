use Rattle.std.proofs.Common.{refl, subst, sym}
use Rattle.std.specs.Arc.{arc_value}
use Rattle.com_model.specs.declared.scenario.Scenario.{Scenario}
use Rattle.com_model.specs.Formed.{Formed}
use Rattle.com_command_draw.proofs.Answered.{points_at}
use Rattle.com_command_draw.proofs.Finished.{delivered_at}
use Rattle.com_command_draw.proofs.points.draw_points.Goals as goal

pub explain_end-requires-clause-ends : goal.explain_end-requires-clause-ends
explain_end-requires-clause-ends g c = c.in_ok-drawn.ensures.begun.ended

pub returns-clause-answer : goal.returns-clause-answer
returns-clause-answer g c =
    points_at c.args.scenario (arc_value c.in_ok-scenario.scenario) c.in_ok-drawn.drawn.0 c.in_ok-waits.waits
    c.in_ok-events.events.items c.from_vec.result c.status_at.result c.in_ok-text.text c.in_ok-scenario.ensures
    c.in_ok-drawn.ensures.begun c.in_ok-waits.ensures
    (delivered_at (arc_value c.in_ok-scenario.scenario) c.deref.result.now c.in_ok-drawn.drawn.1.items c.as_slice.result.now c.in_ok-events.events.items
    c.deref.ensures c.as_slice.ensures.value
    (subst (λ (s : Scenario). Formed s) (sym c.in_ok-scenario.ensures) c.requires.formed) (c.in_ok-drawn.ensures.kept refl) c.in_ok-events.ensures)
    c.from_vec.ensures c.in_ok-text.ensures c.status_at.ensures
