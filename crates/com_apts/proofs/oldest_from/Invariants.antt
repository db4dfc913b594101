use Rattle.std.proofs.Common.{length, ◌-◌, ◌≤◌}
use Rattle.com_apts.specs.Lanes.{ended_first}
use Rattle.com_apts.proofs.oldest_from.Given as goal

abbrev pub invariant-loop-index : goal.invariant-loop-index
invariant-loop-index l = l.index ≤ ended_first l.ended

abbrev pub decreases-loop-index : goal.decreases-loop-index
decreases-loop-index l = length l.ended - l.index
