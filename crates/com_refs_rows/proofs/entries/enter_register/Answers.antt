use Rattle.std.proofs.Common.{refl}
use Rattle.com_refs_books.specs.Changes.{Registers}
use Rattle.com_refs_rows.proofs.Fitting.{held_offered}
use Rattle.com_refs_rows.proofs.Gaining.{gained_same}
use Rattle.com_refs_rows.proofs.Rowless.{no_some, gained_as, gained_nil, register_none, register_unheld, register_one}
use Rattle.com_refs_rows.proofs.entries.enter_register.Goals as goal

pub returns-in_default-clause-row : goal.returns-in_default-clause-row
returns-in_default-clause-row c = λ a hr brought s x left b.
    gained_nil a _ c.args.refs.now brought (register_none s x left b a c.args.cookie c.args.held hr (no_some c.args.cookie c.in_default.not-Some))

pub returns-in-None-clause-row : goal.returns-in-None-clause-row
returns-in-None-clause-row c = λ a hr brought s x left b.
    gained_nil a _ c.args.refs.now brought (register_unheld s x left b a c.args.cookie c.args.held hr c.in-None.is)

pub register-requires-clause-known : goal.register-requires-clause-known
register-requires-clause-known c = held_offered c.args.refs.now c.args.held c.in-Some-held.held c.in-Some-held.is c.requires.held

pub returns-in-Some-held-clause-row : goal.returns-in-Some-held-clause-row
returns-in-Some-held-clause-row c = λ a hr brought s x left b.
    gained_as a _ _ c.args.refs.now c.register.new.refs brought brought
    (register_one s x left b a c.args.cookie c.args.held hr _ c.in-Some-held.held c.in-Some.is c.in-Some-held.is)
    (gained_same a (Registers c.in-Some-held.held.object c.in-Some-held.held.iface) c.args.refs.now c.register.new.refs brought brought c.register.ensures.places c.register.ensures.row refl)
