use Rattle.std.proofs.Common.{◌≡◌, ◌++◌, length}
use Rattle.com_waits.specs.Texts.{lane_words}
use Rattle.com_waits.proofs.texts.push_lanes.Given as goal

abbrev pub invariant-lanes : goal.invariant-lanes
invariant-lanes l = l.out ++ lane_words l.rest ≡ l.initial.out ++ lane_words l.lanes

abbrev pub decreases-lanes : goal.decreases-lanes
decreases-lanes l = length l.rest
