use Rattle.std.proofs.Common.{refl, ap, ◌∙◌, arith}
use Rattle.com_stub.specs.CounterRows.{has_counter}
use Rattle.com_refs_holders.proofs.Counters.{has_more}
use Rattle.com_refs_holders.proofs.Issues.{local_fits, public_fits, issued_books, issued_stands, issued_places}
use Rattle.com_refs_holders.proofs.Wholes.{whole_by}
use Rattle.com_refs_holders.proofs.Holders.issue_elsewhere.Goals as goal

pub gain-requires-clause-room : goal.gain-requires-clause-room
gain-requires-clause-room c = let room = rw (← c.self.view_is) at c.requires.room in omega (arith, room, c.self.invariant.proxy_room)

pub gain-requires-clause-local_fits : goal.gain-requires-clause-local_fits
gain-requires-clause-local_fits c = local_fits _ c.args.apartment c.args.held.object c.args.held.iface c.self.invariant.stands (rw (← c.self.view_is) at c.requires.few)

pub gain-requires-clause-public_fits : goal.gain-requires-clause-public_fits
gain-requires-clause-public_fits c =
    let few = rw (← c.self.view_is) at c.requires.few in
    omega (arith, few, public_fits _ c.args.apartment c.args.held.object c.args.held.iface c.self.invariant.stands (rw (← c.self.view_is) at c.requires.connected))

pub issue-requires : goal.issue-requires
issue-requires c =
    let few = rw (← c.self.view_is) at c.requires.few in
    record {
      connected = rw (← c.self.view_is) at c.requires.connected;
      known = rw (← c.self.view_is) at c.requires.known;
      fits = omega (arith, few, c.self.invariant.stands.bounded.sums c.args.held.object);
    }

pub invariant_of-self : goal.invariant_of-self
invariant_of-self c =
    let room = rw (← c.self.view_is) at c.requires.room in
    let connected = rw (← c.self.view_is) at c.requires.connected in
    let elsewhere = rw (← c.self.view_is) at c.requires.elsewhere in
    let known = rw (← c.self.view_is) at c.requires.known in
    whole_by _ _ _ _ _ _ _ _ _ _ _ _ _ 1 c.self.invariant refl (omega (arith, room)) (omega arith) (omega (arith, c.issue.ensures.stub_room)) (omega (arith, c.gain.ensures.spare)) (omega arith) (omega arith)
    (issued_stands _ _ c.args.apartment c.args.held.object c.args.held.iface (record { objects = refl; stubs = c.issue.ensures.stubs; counters = c.issue.ensures.counters; proxies = c.gain.ensures.rows; packets = refl; cookies = refl; issued = refl }) connected known elsewhere c.self.invariant.stands)

pub returns-clause-books : goal.returns-clause-books
returns-clause-books c =
    let connected = rw (← c.self.view_is) at c.requires.connected in
    let known = rw (← c.self.view_is) at c.requires.known in
    rw (← c.self.view_is) (issued_books _ _ c.args.apartment c.args.held.object c.args.held.iface (record { objects = refl; stubs = c.issue.ensures.stubs; counters = c.issue.ensures.counters; proxies = c.gain.ensures.rows; packets = refl; cookies = refl; issued = refl }) connected known)

pub returns-clause-places : goal.returns-clause-places
returns-clause-places c = rw (← c.self.view_is)
    (issued_places _ _ c.args.apartment c.args.held.object c.args.held.iface (record { objects = refl; stubs = c.issue.ensures.stubs; counters = c.issue.ensures.counters; proxies = c.gain.ensures.rows; packets = refl; cookies = refl; issued = refl }))

pub returns-clause-offers : goal.returns-clause-offers
returns-clause-offers c = λ x j. rw (← c.self.view_is) (ap (λ cs. has_counter cs x j) c.issue.ensures.counters ∙ has_more _ c.args.held.object c.args.held.iface 5 x j)
