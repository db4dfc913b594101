use Rattle.std.proofs.Common.{refl, sym, ◌∙◌}
use Rattle.com_refs_rows.proofs.Rowing.{no_packet_made}
use Rattle.com_refs_rows.proofs.Touched.{marshalled-more}
use Rattle.com_refs_rows.proofs.Unholding.{more-same}
use Rattle.com_refs_rows.proofs.rows.marshal.Goals as goal

pub returns-then-not-connected-clause-row : goal.returns-then-not-connected-clause-row
returns-then-not-connected-clause-row c = no_packet_made c.args.refs.now c.args.refs.now c.args.apartment c.args.held.object c.args.held.iface c.args.mode (sym c.connected.ensures ∙ c.if-not-connected.true) refl

pub returns-then-not-connected-clause-more : goal.returns-then-not-connected-clause-more
returns-then-not-connected-clause-more c = more-same c.args.refs.now c.args.refs.now refl

pub returns-in-Ok-clause-more : goal.returns-in-Ok-clause-more
returns-in-Ok-clause-more c = λ x.
    marshalled-more c.args.refs.now c.marshal.new.self c.args.apartment c.args.held.object c.args.held.iface c.args.mode c.in-Ok.ensures.row c.in-Ok.ensures.places x
