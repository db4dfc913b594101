use Rattle.std.proofs.Common.{refl}
use Rattle.com_refs_books.specs.Changes.{Marshals}
use Rattle.com_refs_rows.proofs.Fitting.{held_offered}
use Rattle.com_refs_rows.proofs.Gaining.{gained_same}
use Rattle.com_refs_rows.proofs.Rowless.{no_some, gained_as, gained_nil, marshal_none, marshal_unheld, marshal_one}
use Rattle.com_refs_rows.proofs.entries.enter_marshal.Goals as goal

pub returns-in_default-clause-row : goal.returns-in_default-clause-row
returns-in_default-clause-row c = λ n hr bytes brought s x left b.
    gained_nil c.args.apartment _ c.args.refs.now brought (marshal_none s x left b c.args.apartment c.args.packet c.args.mode c.args.held n hr bytes (no_some c.args.packet c.in_default.not-Some))

pub returns-in-None-clause-row : goal.returns-in-None-clause-row
returns-in-None-clause-row c = λ n hr bytes brought s x left b.
    gained_nil c.args.apartment _ c.args.refs.now brought (marshal_unheld s x left b c.args.apartment c.args.packet c.args.mode c.args.held n hr bytes c.in-None.is)

pub marshal-requires-clause-known : goal.marshal-requires-clause-known
marshal-requires-clause-known c = held_offered c.args.refs.now c.args.held c.in-Some-held.held c.in-Some-held.is c.requires.held

pub returns-in-Some-held-clause-row : goal.returns-in-Some-held-clause-row
returns-in-Some-held-clause-row c = λ n hr bytes brought s x left b.
    gained_as c.args.apartment _ _ c.args.refs.now c.marshal.new.refs brought brought
    (marshal_one s x left b c.args.apartment c.args.packet c.args.mode c.args.held n hr bytes _ c.in-Some-held.held c.in-Some.is c.in-Some-held.is)
    (gained_same c.args.apartment (Marshals c.args.apartment c.args.mode c.in-Some-held.held.object c.in-Some-held.held.iface) c.args.refs.now c.marshal.new.refs brought brought c.marshal.ensures.places c.marshal.ensures.row refl)
