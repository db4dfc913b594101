use Rattle.std.proofs.Common.{refl, ap, ◌∙◌, arith}
use Rattle.com_stub.specs.CounterRows.{has_counter}
use Rattle.com_refs_holders.specs.Tables.{Tables, tables}
use Rattle.com_refs_holders.proofs.Counters.{has_less}
use Rattle.com_refs_holders.proofs.Cuts.{packet_shown}
use Rattle.com_refs_holders.proofs.Drops.{dropped_books, dropped_stands, packet_within, stub_is_count}
use Rattle.com_refs_holders.proofs.Cookies.{same_counted}
use Rattle.com_refs_holders.proofs.Wholes.{whole_by}
use Rattle.com_refs_holders.proofs.Holders.end_packet.Goals as goal

pub take-requires : goal.take-requires
take-requires c =
    let some = rw (← c.self.view_is) at c.requires.outstanding in
    let t : Tables = tables c.self.inside.objects.items c.self.inside.stubs.stubs c.self.inside.stubs.counters c.self.inside.proxies.rows c.self.inside.packets.entries c.self.inside.cookies.entries c.self.inside.issued c.self.inside.room in
    rw c.from.ensures (stub_is_count t c.args.packet.object c.args.packet.iface c.args.packet.refs (packet_shown t c.args.number c.args.packet some).1 (packet_within t c.args.number c.args.packet c.self.invariant.stands some))

pub invariant_of-self : goal.invariant_of-self
invariant_of-self c =
    let some = rw (← c.self.view_is) at c.requires.outstanding in
    whole_by _ _ _ _ _ _ _ _ _ _ _ _ _ 0 c.self.invariant refl (omega arith) (omega arith) (omega (arith, c.take.ensures.spare)) (omega arith) (omega (arith, c.end.ensures.spare)) (omega arith)
    (dropped_stands _ _ c.args.number c.args.packet (record { objects = refl; stubs = c.take.ensures.stubs; proxies = refl; cookies = refl }) refl (rw c.from.ensures at c.take.ensures.counters) c.end.ensures.entries some c.self.invariant.stands)

pub returns-clause-books : goal.returns-clause-books
returns-clause-books c =
    let some = rw (← c.self.view_is) at c.requires.outstanding in
    rw (← c.self.view_is) (dropped_books _ _ c.args.number c.args.packet (record { objects = refl; stubs = c.take.ensures.stubs; proxies = refl; cookies = refl }) (rw c.from.ensures at c.take.ensures.counters) c.end.ensures.entries some)

pub returns-clause-places : goal.returns-clause-places
returns-clause-places c = rw (← c.self.view_is) (same_counted _ _ refl refl)

pub returns-clause-offers : goal.returns-clause-offers
returns-clause-offers c = λ x j. rw (← c.self.view_is) (ap (λ cs. has_counter cs x j) (rw c.from.ensures at c.take.ensures.counters) ∙ has_less _ c.args.packet.object c.args.packet.iface c.args.packet.refs x j)
