use Rattle.std.proofs.Common.{◌∙◌, ap}
use Rattle.com_refs.specs.Found.{shown_packet}
use Rattle.com_refs.proofs.Finding.{packet_is}
use Rattle.com_refs.proofs.Refs.packet_row.Goals as goal

pub returns : goal.returns
returns c = rw (← c.self.view_is) (c.packet_row.ensures ∙ ap (λ p. shown_packet p) c.packet.ensures ∙ packet_is c.self.inside.holders c.args.number)
