use Rattle.com_exchange.proofs.Streams.{SoFar}
use Rattle.com_exchange.proofs.writing.put_values.Given as goal

abbrev pub invariant-loop-value : goal.invariant-loop-value
invariant-loop-value l = SoFar l.fn.out l.out l.referent l.taken l.value-index l.values l.packets
