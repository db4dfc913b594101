use Rattle.std.proofs.Common.{◌∙◌, sym}
use Rattle.com_refs.proofs.Finding.{packets_many}
use Rattle.com_refs.proofs.Refs.packets.Goals as goal

pub returns-clause-books : goal.returns-clause-books
returns-clause-books c = rw (← c.self.view_is) (c.packets.ensures ∙ sym (packets_many c.self.inside.holders))
