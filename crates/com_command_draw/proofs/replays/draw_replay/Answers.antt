use Rattle.std.specs.Arc.{arc_value}
use Rattle.com_command_draw.proofs.Answered.{drawn_at}
use Rattle.com_command_draw.proofs.replays.draw_replay.Goals as goal

pub explain_end-requires-clause-ends : goal.explain_end-requires-clause-ends
explain_end-requires-clause-ends g c = c.in_ok-drawn.ensures.begun.ended

pub returns-clause-answer : goal.returns-clause-answer
returns-clause-answer g c =
    drawn_at c.args.scenario (arc_value c.in_ok-scenario.scenario) c.in_ok-drawn.drawn.0 c.in_ok-waits.waits c.new.result
    c.status_at.result c.in_ok-text.text c.in_ok-scenario.ensures c.in_ok-drawn.ensures.begun c.in_ok-waits.ensures c.new.ensures
    c.in_ok-text.ensures c.status_at.ensures
