use Rattle.std.proofs.Common.{◌∙◌}
use Rattle.com_refs_books.specs.Changes.{Unmarshals}
use Rattle.com_refs_rows.proofs.Gaining.{gained_one, gained_nothing}
use Rattle.com_refs_rows.proofs.Losing.{hidden_unmarshal}
use Rattle.com_refs_rows.proofs.Touched.{unmarshalled-more}
use Rattle.com_refs_rows.proofs.Unholding.{more-same}
use Rattle.com_refs_rows.proofs.rows.unmarshal.Goals as goal

pub returns-in-Ok-clause-row : goal.returns-in-Ok-clause-row
returns-in-Ok-clause-row c =
    gained_one c.args.apartment (Unmarshals c.args.apartment c.args.number) c.args.refs.now c.unmarshal.new.self (record { object = c.in-Ok.packet.object; iface = c.in-Ok.packet.iface }) _ _ c.in-Ok.ensures.places c.in-Ok.ensures.row
    c.bring.ensures.items

pub returns-in-Err-clause-row : goal.returns-in-Err-clause-row
returns-in-Err-clause-row c =
    gained_nothing c.args.apartment (Unmarshals c.args.apartment c.args.number) c.args.refs.now c.unmarshal.new.self c.args.brought.now.items
    c.in-Err.ensures.err (hidden_unmarshal c.args.refs.now c.args.apartment c.args.number (c.unmarshal.ensures.unknown.0 (c.in-Err.is ∙ c.in-Err.ensures.only c.requires.room)))

pub returns-in-Ok-clause-more : goal.returns-in-Ok-clause-more
returns-in-Ok-clause-more c =
    (λ x. unmarshalled-more c.args.refs.now c.unmarshal.new.self c.args.apartment c.args.number c.in-Ok.packet c.in-Ok.ensures.packet c.in-Ok.ensures.row c.in-Ok.ensures.places x)

pub returns-in-Err-clause-more : goal.returns-in-Err-clause-more
returns-in-Err-clause-more c = more-same c.args.refs.now c.unmarshal.new.self c.in-Err.ensures.err
