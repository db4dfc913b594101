use Rattle.std.proofs.Common.{length, ◌-◌, ◌≤◌}
use Rattle.com_lane_lists.specs.StasKept.{gone_first}
use Rattle.com_lane_lists.proofs.stas.oldest_from.Given as goal

abbrev pub invariant-loop-index : goal.invariant-loop-index
invariant-loop-index l = l.index ≤ gone_first l.rows

abbrev pub decreases-loop-index : goal.decreases-loop-index
decreases-loop-index l = length l.rows - l.index
