use Rattle.com_exchange.proofs.Ranging.{RangesSoFar}
use Rattle.com_exchange.proofs.ranges.are_in_range.Given as goal

abbrev pub invariant-loop-value : goal.invariant-loop-value
invariant-loop-value l = RangesSoFar l.taken l.value-index l.values l.packets
