-- The pick that made its entry is the first one that can step.
use Rattle.com_schedule.proofs.Trying.{picking_here}
use Rattle.com_schedule.proofs.turns.pick.Goals as goal

pub returns-then-made-clause-tried : goal.returns-then-made-clause-tried
returns-then-made-clause-tried g c =
    picking_here _ _ _ _ (g.C.Runtime.state c.try_pick.new.runtime) _ _ _ _ _ _ _ (g.C.Tries.made c.try_pick.new.runtime)
    c.picks.invariant.same c.picks.invariant.picking c.picks-test.true c.in_ok-made.ensures.can c.in_ok-made.ensures.tried c.if-made.true
