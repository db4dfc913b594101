use Rattle.std.proofs.Common.{◌≡◌, ◌++◌, length}
use Rattle.com_waits.specs.Chains.{before_lane}
use Rattle.com_waits.proofs.chains.push_before.Given as goal

abbrev pub invariant-lanes : goal.invariant-lanes
invariant-lanes l = l.out.items ++ before_lane l.lane l.rest ≡ l.initial.out.items ++ before_lane l.lane l.lanes

abbrev pub decreases-lanes : goal.decreases-lanes
decreases-lanes l = length l.rest
