-- The turn of the schedule: that of the first pick that can step, else of the first lane in the round.
use Rattle.std.proofs.Common.{refl}
use Rattle.com_runtime.proofs.Limits.{not-some}
use Rattle.com_schedule.proofs.Trying.{turn_of_lane, turn_of_none, turn_of_pick}
use Rattle.com_schedule.proofs.turns.take_turn.Goals as goal

pub returns-in-Some-clause-turn : goal.returns-in-Some-clause-turn
returns-in-Some-clause-turn g c = turn_of_pick _ _ _ _ _ _ _ _ _ _ _ c.requires.reached c.requires.room c.in-Some.is c.in_ok-chosen.ensures.tried

pub returns-in_default-2-clause-turn : goal.returns-in_default-2-clause-turn
returns-in_default-2-clause-turn g c =
    turn_of_none _ _ _ _ _ _ _ _ _ _ _ _ _ _ _ c.requires.last c.in_ok-chosen.ensures.scenario (not-some c.in_ok-chosen.field-0 c.in_default.not-Some) (not-some c.in_ok-lane.field-0 c.in_default-2.not-Some)
    c.in_ok-chosen.ensures.tried c.in_ok-lane.ensures.tried

pub returns-clause-turn : goal.returns-clause-turn
returns-clause-turn g c =
    turn_of_lane _ _ _ _ _ _ _ _ _ _ _ _ _ _ _ _ _ c.requires.reached c.requires.room c.in_ok-chosen.ensures.scenario refl (not-some c.in_ok-chosen.field-0 c.in_default.not-Some) c.in-Some-2.is
    c.in_ok-chosen.ensures.tried c.in_ok-lane.ensures.tried
