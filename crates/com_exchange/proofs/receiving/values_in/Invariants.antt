use Rattle.com_exchange.proofs.Receivings.{ValuesSoFar}
use Rattle.com_exchange.proofs.receiving.values_in.Given as goal

abbrev pub invariant-loop-wire : goal.invariant-loop-wire
invariant-loop-wire l = ValuesSoFar l.wires l.wire-index l.values.items
