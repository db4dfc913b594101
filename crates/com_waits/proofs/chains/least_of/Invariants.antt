use Rattle.std.proofs.Common.{◌≡◌, length}
use Rattle.com_model.specs.Lists.{least}
use Rattle.com_waits.proofs.Chained.{onto}
use Rattle.com_waits.proofs.chains.least_of.Given as goal

abbrev pub invariant-lanes : goal.invariant-lanes
invariant-lanes l = onto l.rest l.least ≡ least l.lanes

abbrev pub decreases-lanes : goal.decreases-lanes
decreases-lanes l = length l.rest
