use Rattle.std.proofs.Common.{◌≡◌, length}
use Rattle.com_waits.specs.Chains.{from_lane}
use Rattle.com_waits.proofs.chains.from_lane.Given as goal

abbrev pub invariant-lanes : goal.invariant-lanes
invariant-lanes l = from_lane l.lane l.rest ≡ from_lane l.lane l.lanes

abbrev pub decreases-lanes : goal.decreases-lanes
decreases-lanes l = length l.rest
