use Rattle.com_packets.proofs.Ending.{table_cut}
use Rattle.com_packets.proofs.Packets.cut.Goals as goal

pub invariant_of-self : goal.invariant_of-self
invariant_of-self c = rw (c.end_all.ensures.entries, c.end_all.ensures.limit) (table_cut c.self.inside.slots.entries c.self.inside.chains.keys c.self.inside.slots.limit c.args.object c.self.invariant)
