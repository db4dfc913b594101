use Rattle.com_exchange.proofs.Sendings.{CarriedSoFar}
use Rattle.com_exchange.proofs.sending.references_in.Given as goal

abbrev pub invariant-loop-value : goal.invariant-loop-value
invariant-loop-value l = CarriedSoFar l.values l.value-index l.held.items
