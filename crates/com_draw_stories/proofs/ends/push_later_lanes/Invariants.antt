use Rattle.std.proofs.Common.{◌≡◌, ◌++◌, length}
use Rattle.com_draw_stories.specs.Ends.{later_lanes}
use Rattle.com_draw_stories.proofs.ends.push_later_lanes.Given as goal

abbrev pub invariant-lanes : goal.invariant-lanes
invariant-lanes l = l.out ++ later_lanes l.rest ≡ l.initial.out ++ later_lanes l.lanes

abbrev pub decreases-lanes : goal.decreases-lanes
decreases-lanes l = length l.rest
