use Rattle.std.proofs.Common.{◌≡◌, refl, ap, ◌∙◌, arith}
use Rattle.com_stub.specs.CounterRows.{has_counter}
use Rattle.com_proxy.specs.Rows.{public_of}
use Rattle.com_refs_holders.specs.Tables.{owns_of}
use Rattle.com_refs_holders.proofs.Issues.{public_fits}
use Rattle.com_refs_holders.proofs.Keeps.{marshal_stands, minted_same, minted-has}
use Rattle.com_refs_holders.proofs.Marshals.{marshal_tables}
use Rattle.com_refs_holders.proofs.Wholes.{whole_by}
use Rattle.com_refs_holders.proofs.Holders.issue_packet.Goals as goal

pub mint-refs-requires : goal.mint-refs-requires
mint-refs-requires c =
    let few = rw (← c.self.view_is) at c.requires.few in
    let connected = rw (← c.self.view_is) at c.requires.connected in
    record {
      connected = connected;
      known = rw (← c.self.view_is) at c.requires.known;
      fits = omega (arith, few, c.self.invariant.stands.bounded.sums c.args.held.object);
      public_fits = omega (arith, few, public_fits _ c.args.apartment c.args.held.object c.args.held.iface c.self.invariant.stands connected);
    }

pub make-number-requires : goal.make-number-requires
make-number-requires c =
    let room = rw (← c.self.view_is) at c.requires.room in
    let few = rw (← c.self.view_is) at c.requires.few in
    record { room = omega (arith, room, c.self.invariant.packet_room); fits = omega (arith, few, c.self.invariant.stands.bounded.packets) }

pub invariant_of-self : goal.invariant_of-self
invariant_of-self c =
    let room = rw (← c.self.view_is) at c.requires.room in
    let connected = rw (← c.self.view_is) at c.requires.connected in
    let known = rw (← c.self.view_is) at c.requires.known in
    let owned : c.owns-is_owned.result ≡ owns_of c.self.inside.objects.items c.args.held.object c.args.apartment = rw c.deref-2.ensures.value at c.owns-is_owned.ensures in
    let packets = rw (c.mint-refs.ensures.result, owned) at c.make-number.ensures.entries in
    whole_by _ _ _ _ _ _ _ _ _ _ _ _ _ 1 c.self.invariant refl (omega (arith, room)) (omega arith) (omega (arith, c.mint-refs.ensures.stub_room)) (omega (arith, c.mint-refs.ensures.proxy_room)) (omega (arith, c.make-number.ensures.spare)) (omega arith)
    (marshal_stands _ _ c.args.mode c.args.apartment c.args.held.object c.args.held.iface c.object_at-row.result.owner connected known refl c.mint-refs.ensures.stubs
    (rw owned at c.mint-refs.ensures.counters) (rw owned at c.mint-refs.ensures.rows) packets refl refl c.self.invariant.stands)

pub returns-clause-row : goal.returns-clause-row
returns-clause-row c =
    let connected = rw (← c.self.view_is) at c.requires.connected in
    let known = rw (← c.self.view_is) at c.requires.known in
    let owned : c.owns-is_owned.result ≡ owns_of c.self.inside.objects.items c.args.held.object c.args.apartment = rw c.deref-2.ensures.value at c.owns-is_owned.ensures in
    let packets = rw (c.mint-refs.ensures.result, owned) at c.make-number.ensures.entries in
    rw (← c.self.view_is)
    (marshal_tables _ _ c.args.mode c.args.apartment c.args.held.object c.args.held.iface c.object_at-row.result.owner connected known c.mint-refs.ensures.stubs
    (rw owned at c.mint-refs.ensures.counters) (rw owned at c.mint-refs.ensures.rows) packets refl)

pub returns-clause-places : goal.returns-clause-places
returns-clause-places c = rw (← c.self.view_is) (minted_same _ _ c.owns-is_owned.result c.args.mode c.args.apartment c.args.held.object c.args.held.iface refl c.mint-refs.ensures.rows)

pub returns-clause-offers : goal.returns-clause-offers
returns-clause-offers c = λ x j. rw (← c.self.view_is)
    (ap (λ cs. has_counter cs x j) c.mint-refs.ensures.counters ∙ minted-has c.owns-is_owned.result c.args.mode (public_of c.self.inside.proxies.rows c.args.apartment c.args.held.object c.args.held.iface) c.args.held.object c.args.held.iface _ x j)
