use Rattle.std.proofs.Common.{◌≡◌, length}
use Rattle.com_model.specs.Lists.{is_member}
use Rattle.com_waits.proofs.chains.has.Given as goal

abbrev pub invariant-lanes : goal.invariant-lanes
invariant-lanes l = is_member l.lane l.rest ≡ is_member l.lane l.lanes

abbrev pub decreases-lanes : goal.decreases-lanes
decreases-lanes l = length l.rest
