-- The entry that is answered is the one that the lane made.
use Rattle.com_core.specs.Seen.{core_state}
use Rattle.com_core.proofs.Kept.{next_taken}
use Rattle.com_schedule.proofs.Trying.{lane_goes}
use Rattle.com_core.proofs.runtime.Core.step.Goals as goal

pub returns-then-made-clause-follows : goal.returns-then-made-clause-follows
returns-then-made-clause-follows g c =
    let v = c.args.self.now.core in
    let u = c.try_lane.new.self in
    next_taken _ _ _ _ _ _ _ c.take_last.ensures.entry c.take_last.ensures.core
    (lane_goes v.scenario (core_state v) c.args.lane c.in_ok-made.made u.made (core_state u.core) _ _ c.in_ok-made.ensures.tried c.if-made.true).next
