-- A step of the course is its turn, and the line of the turn's entry.
use Rattle.com_replay.proofs.Turning.{began_at, made_at, made_reached, made_within, over_at, over_reached, over_within}
use Rattle.com_replay.proofs.course.Course.step.Goals as goal

pub returns-in-Over-clause-step : goal.returns-in-Over-clause-step
returns-in-Over-clause-step g c = over_at c.args.scenario.now _ _ (g.C.Tries.made c.turn.new.runtime) c.in_ok-step.step c.in-Over.ended _ c.turn.new.self.lines _ c.in_ok-step.ensures.turn c.in-Over.is c.in_ok-step.ensures.lines

pub returns-in-Over-clause-entries : goal.returns-in-Over-clause-entries
returns-in-Over-clause-entries g c = over_within c.args.scenario.now _ _ (g.C.Tries.made c.turn.new.runtime) c.in_ok-step.step c.in-Over.ended c.in_ok-step.ensures.turn c.in-Over.is c.requires.entries

pub returns-in-Over-clause-reached : goal.returns-in-Over-clause-reached
returns-in-Over-clause-reached g c = over_reached c.args.scenario.now _ _ (g.C.Tries.made c.turn.new.runtime) c.in_ok-step.step c.in-Over.ended c.in_ok-step.ensures.turn c.in-Over.is c.requires.reached

pub returns-in_ok-show-in-Made-clause-step : goal.returns-in_ok-show-in-Made-clause-step
returns-in_ok-show-in-Made-clause-step g c =
    made_at c.args.scenario.now _ _ (g.C.Tries.made c.turn.new.runtime) c.last.result.now c.in_ok-step.step c.entries-place.result _ c.turn.new.self.lines _ _ _
    c.in_ok-step.ensures.turn c.in-Made.is c.last.ensures c.in_ok-step.ensures.lines c.entries-place.ensures c.in_ok-show-in-Made.ensures.ok

pub returns-in_ok-show-in-Made-clause-entries : goal.returns-in_ok-show-in-Made-clause-entries
returns-in_ok-show-in-Made-clause-entries g c = made_within c.args.scenario.now _ _ (g.C.Tries.made c.turn.new.runtime) c.in_ok-step.step c.in_ok-step.ensures.turn c.in-Made.is c.requires.entries

pub returns-in_ok-show-in-Made-clause-reached : goal.returns-in_ok-show-in-Made-clause-reached
returns-in_ok-show-in-Made-clause-reached g c = made_reached c.args.scenario.now _ _ (g.C.Tries.made c.turn.new.runtime) c.in_ok-step.step c.in_ok-step.ensures.turn c.in-Made.is c.requires.reached

pub returns-in_err-show-in-Made-clause-prefix : goal.returns-in_err-show-in-Made-clause-prefix
returns-in_err-show-in-Made-clause-prefix g c =
    began_at c.from_residual-in_err-show-in-Made.result c.args.scenario.now _ _ (g.C.Tries.made c.turn.new.runtime) c.last.result.now c.in_ok-step.step c.entries-place.result _ c.turn.new.self.lines _ _
    c.in_ok-step.ensures.turn c.in-Made.is c.last.ensures c.in_ok-step.ensures.lines c.entries-place.ensures c.show.ensures.prefix
