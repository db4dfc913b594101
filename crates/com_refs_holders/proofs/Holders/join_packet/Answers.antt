use Rattle.std.proofs.Common.{refl, arith}
use Rattle.com_proxy.specs.Rows.{gaining}
use Rattle.com_refs_holders.proofs.Rowed.{gains}
use Rattle.com_refs_holders.proofs.Grown.{more_elsewhere}
use Rattle.com_refs_holders.proofs.Issues.{local_fits, join_public_fits}
use Rattle.com_refs_holders.proofs.Joins.{joined_books, joined_stands}
use Rattle.com_refs_holders.proofs.Wholes.{whole_by}
use Rattle.com_refs_holders.proofs.Holders.join_packet.Goals as goal

pub gain-requires-clause-room : goal.gain-requires-clause-room
gain-requires-clause-room c = let room = rw (← c.self.view_is) at c.requires.room in omega (arith, room, c.self.invariant.proxy_room)

pub gain-requires-clause-local_fits : goal.gain-requires-clause-local_fits
gain-requires-clause-local_fits c = local_fits _ c.args.apartment c.args.packet.object c.args.packet.iface c.self.invariant.stands (rw (← c.self.view_is) at c.requires.few)

pub gain-requires-clause-public_fits : goal.gain-requires-clause-public_fits
gain-requires-clause-public_fits c =
    let few = rw (← c.self.view_is) at c.requires.few in
    let some = rw (← c.self.view_is) at c.requires.outstanding in
    omega (arith, few, join_public_fits _ c.args.apartment c.args.number c.args.packet c.self.invariant.stands some)

pub invariant_of-self : goal.invariant_of-self
invariant_of-self c =
    let room = rw (← c.self.view_is) at c.requires.room in
    let some = rw (← c.self.view_is) at c.requires.outstanding in
    let elsewhere = rw (← c.self.view_is) at c.requires.elsewhere in
    whole_by _ _ _ _ _ _ _ _ _ _ _ _ _ 1 c.self.invariant refl (omega (arith, room)) (omega arith) (omega arith) (omega (arith, c.gain.ensures.spare)) (omega (arith, c.end.ensures.spare)) (omega arith)
    (joined_stands _ _ c.args.apartment c.args.number c.args.packet (record { objects = refl; stubs = refl; counters = refl; cookies = refl }) refl c.gain.ensures.rows c.end.ensures.entries some elsewhere c.self.invariant.stands)

pub returns-clause-books : goal.returns-clause-books
returns-clause-books c =
    let some = rw (← c.self.view_is) at c.requires.outstanding in
    rw (← c.self.view_is) (joined_books _ _ c.args.apartment c.args.number c.args.packet (record { objects = refl; stubs = refl; counters = refl; cookies = refl }) c.gain.ensures.rows c.end.ensures.entries some)

pub returns-clause-places : goal.returns-clause-places
returns-clause-places c = rw (← c.self.view_is) (more_elsewhere (gaining c.args.packet.refs) c.args.packet.refs (gains c.args.packet.refs) c.args.apartment c.args.packet.object c.args.packet.iface _ _ refl c.gain.ensures.rows)
