use Rattle.std.proofs.Common.{refl, sym, ◌∙◌}
use Rattle.com_refs_rows.proofs.Rowing.{no_cookie_made, cookie_made}
use Rattle.com_refs_rows.proofs.Touched.{registered-more}
use Rattle.com_refs_rows.proofs.Unholding.{more-same}
use Rattle.com_refs_rows.proofs.rows.register.Goals as goal

pub returns-then-not-connected-clause-row : goal.returns-then-not-connected-clause-row
returns-then-not-connected-clause-row c = no_cookie_made c.args.refs.now c.args.refs.now c.args.held.object c.args.held.iface (sym c.connected.ensures ∙ c.if-not-connected.true) refl

pub returns-clause-row : goal.returns-clause-row
returns-clause-row c = cookie_made c.args.refs.now c.register.new.self c.args.held.object c.args.held.iface (sym c.connected.ensures ∙ c.if-not-connected.false) c.in-Ok.ensures.books

pub returns-then-not-connected-clause-more : goal.returns-then-not-connected-clause-more
returns-then-not-connected-clause-more c = more-same c.args.refs.now c.args.refs.now refl

pub returns-clause-more : goal.returns-clause-more
returns-clause-more c = λ x.
    registered-more c.args.refs.now c.register.new.self c.args.held.object c.args.held.iface
    (cookie_made c.args.refs.now c.register.new.self c.args.held.object c.args.held.iface (sym c.connected.ensures ∙ c.if-not-connected.false) c.in-Ok.ensures.books)
    c.in-Ok.ensures.places x
