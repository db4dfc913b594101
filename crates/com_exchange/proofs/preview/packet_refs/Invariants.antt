use Rattle.com_exchange.proofs.Previewing.{PreviewedSoFar}
use Rattle.com_exchange.proofs.preview.packet_refs.Given as goal

abbrev pub invariant-loop-at : goal.invariant-loop-at
invariant-loop-at l = PreviewedSoFar l.rows l.at l.refs.items
