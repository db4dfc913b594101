use Rattle.std.proofs.Common.{◌≡◌, ◌-◌, length, drop}
use Rattle.com_model.specs.Ends.{picked}
use Rattle.com_runtime.specs.Standings.{can_pick_in}
use Rattle.com_runtime.proofs.schedule.pick.Given as goal

abbrev pub invariant-picks : goal.invariant-picks
invariant-picks g l =
    picked (can_pick_in (g.C.Runtime.scenario l.runtime) (g.C.Runtime.state l.runtime)) (drop l.from l.picks)
    ≡ picked (can_pick_in (g.C.Runtime.scenario l.runtime) (g.C.Runtime.state l.runtime)) (drop l.next l.picks)

abbrev pub decreases-picks : goal.decreases-picks
decreases-picks g l = length l.picks - l.next
