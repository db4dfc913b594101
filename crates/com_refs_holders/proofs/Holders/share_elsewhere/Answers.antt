use Rattle.std.proofs.Common.{refl, arith}
use Rattle.com_proxy.specs.Rows.{gaining}
use Rattle.com_refs_holders.proofs.Rowed.{gains}
use Rattle.com_refs_holders.proofs.Issues.{local_fits, copied_books, copied_stands, copied_places}
use Rattle.com_refs_holders.proofs.Wholes.{whole_by}
use Rattle.com_refs_holders.proofs.Holders.share_elsewhere.Goals as goal

pub gain-requires-clause-room : goal.gain-requires-clause-room
gain-requires-clause-room c = let room = rw (← c.self.view_is) at c.requires.room in omega (arith, room, c.self.invariant.proxy_room)

pub gain-requires-clause-local_fits : goal.gain-requires-clause-local_fits
gain-requires-clause-local_fits c = local_fits _ c.args.apartment c.args.held.object c.args.held.iface c.self.invariant.stands (rw (← c.self.view_is) at c.requires.few)

pub gain-requires-clause-public_fits : goal.gain-requires-clause-public_fits
gain-requires-clause-public_fits c =
    let public = rw (← c.self.view_is) at c.public-public.ensures in
    omega (arith, c.public-public.type_inv, public)

pub invariant_of-self : goal.invariant_of-self
invariant_of-self c =
    let room = rw (← c.self.view_is) at c.requires.room in
    let elsewhere = rw (← c.self.view_is) at c.requires.elsewhere in
    let known = rw (← c.self.view_is) at c.requires.known in
    whole_by _ _ _ _ _ _ _ _ _ _ _ _ _ 1 c.self.invariant refl (omega (arith, room)) (omega arith) (omega arith) (omega (arith, c.gain.ensures.spare)) (omega arith) (omega arith)
    (copied_stands _ _ (gaining 0) (gains 0) c.args.apartment c.args.held.object c.args.held.iface (record { objects = refl; stubs = refl; counters = refl; proxies = c.gain.ensures.rows; packets = refl; cookies = refl; issued = refl }) known elsewhere c.self.invariant.stands)

pub returns-clause-books : goal.returns-clause-books
returns-clause-books c = rw (← c.self.view_is)
    (copied_books _ _ (gaining 0) (gains 0) c.args.apartment c.args.held.object c.args.held.iface (record { objects = refl; stubs = refl; counters = refl; proxies = c.gain.ensures.rows; packets = refl; cookies = refl; issued = refl }))

pub returns-clause-places : goal.returns-clause-places
returns-clause-places c = rw (← c.self.view_is)
    (copied_places _ _ (gaining 0) (gains 0) c.args.apartment c.args.held.object c.args.held.iface (record { objects = refl; stubs = refl; counters = refl; proxies = c.gain.ensures.rows; packets = refl; cookies = refl; issued = refl }))
