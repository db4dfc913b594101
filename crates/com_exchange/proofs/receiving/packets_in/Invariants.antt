use Rattle.com_exchange.proofs.Receivings.{PacketsSoFar}
use Rattle.com_exchange.proofs.receiving.packets_in.Given as goal

abbrev pub invariant-loop-wire : goal.invariant-loop-wire
invariant-loop-wire l = PacketsSoFar l.wires l.wire-index l.packets.items
