-- The lane whose turn it is makes its entry, or no lane does.
use Rattle.com_runtime.proofs.Limits.{not-some}
use Rattle.com_replay.proofs.Turning.{lane_turned, lane_within, no_lane}
use Rattle.com_replay.proofs.course.Course.lane_turn.Goals as goal

pub returns-in_default-clause-turn : goal.returns-in_default-clause-turn
returns-in_default-clause-turn g c =
    no_lane _ _ c.as_slice-picks.result.now c.args.scenario.now.picks _ _ _ _ _ (g.C.Tries.made c.take_turn.new.runtime) _ _
    c.requires.scenario (not-some c.in_ok-chosen.field-0 c.in_default.not-Some) c.in_ok-chosen.ensures.turn

pub returns-clause-turn : goal.returns-clause-turn
returns-clause-turn g c =
    lane_turned _ _ c.as_slice-picks.result.now c.args.scenario.now.picks _ _ _ _ _ _ _ _ _
    c.requires.scenario c.as_slice-picks.ensures c.in-Some.is c.in_ok-chosen.ensures.turn

pub returns-clause-last : goal.returns-clause-last
returns-clause-last g c =
    lane_within _ _ c.as_slice-picks.result.now c.args.scenario.now.picks (g.C.Runtime.state c.args.runtime.now) (g.C.Runtime.state c.take_turn.new.runtime) c.args.self.now.tried c.args.self.now.last _ _ (g.C.Tries.made c.take_turn.new.runtime) _ _
    c.requires.scenario c.as_slice-picks.ensures c.in-Some.is c.in_ok-chosen.ensures.turn
