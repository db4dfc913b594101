use Rattle.com_exchange.proofs.Sendings.{SentSoFar}
use Rattle.com_exchange.proofs.sending.sent_values.Given as goal

abbrev pub invariant-loop-at : goal.invariant-loop-at
invariant-loop-at g l = SentSoFar l.is_marshalled (g.C.Connections.live l.connections) l.kinds l.values l.at l.sent.items
