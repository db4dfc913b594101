use Rattle.std.proofs.Common.{refl, arith}
use Rattle.com_proxy.specs.Rows.{one_local_more}
use Rattle.com_refs_holders.proofs.Rowed.{local_has, gains_none}
use Rattle.com_refs_holders.proofs.Issues.{local_fits, copied_books, copied_stands, copied_places}
use Rattle.com_refs_holders.proofs.Wholes.{whole_by}
use Rattle.com_refs_holders.proofs.Holders.keep_elsewhere.Goals as goal

pub copy-requires-clause-fits : goal.copy-requires-clause-fits
copy-requires-clause-fits c = local_fits _ c.args.apartment c.args.held.object c.args.held.iface c.self.invariant.stands (rw (← c.self.view_is) at c.requires.few)

pub invariant_of-self : goal.invariant_of-self
invariant_of-self c =
    let held = rw (← c.self.view_is) at c.requires.held in
    let elsewhere = rw (← c.self.view_is) at c.requires.elsewhere in
    let known = c.self.invariant.stands.known.proxies c.args.apartment c.args.held.object c.args.held.iface (local_has _ c.args.apartment c.args.held.object c.args.held.iface held) in
    whole_by _ _ _ _ _ _ _ _ _ _ _ _ _ 0 c.self.invariant refl (omega arith) (omega arith) (omega arith) (omega (arith, c.copy.ensures.spare)) (omega arith) (omega arith)
    (copied_stands _ _ one_local_more gains_none c.args.apartment c.args.held.object c.args.held.iface (record { objects = refl; stubs = refl; counters = refl; proxies = c.copy.ensures.rows; packets = refl; cookies = refl; issued = refl }) known elsewhere c.self.invariant.stands)

pub returns-clause-books : goal.returns-clause-books
returns-clause-books c = rw (← c.self.view_is)
    (copied_books _ _ one_local_more gains_none c.args.apartment c.args.held.object c.args.held.iface (record { objects = refl; stubs = refl; counters = refl; proxies = c.copy.ensures.rows; packets = refl; cookies = refl; issued = refl }))

pub returns-clause-places : goal.returns-clause-places
returns-clause-places c = rw (← c.self.view_is)
    (copied_places _ _ one_local_more gains_none c.args.apartment c.args.held.object c.args.held.iface (record { objects = refl; stubs = refl; counters = refl; proxies = c.copy.ensures.rows; packets = refl; cookies = refl; issued = refl }))
