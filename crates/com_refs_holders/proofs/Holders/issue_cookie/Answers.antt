use Rattle.std.proofs.Common.{refl, ap, ◌∙◌, arith}
use Rattle.com_stub.specs.CounterRows.{has_counter}
use Rattle.com_refs_holders.proofs.Counters.{has_more}
use Rattle.com_refs_holders.proofs.Cookies.{registered_books, registered_stands, same_counted}
use Rattle.com_refs_holders.proofs.Wholes.{whole_by}
use Rattle.com_refs_holders.proofs.Holders.issue_cookie.Goals as goal

pub register-cookie-requires : goal.register-cookie-requires
register-cookie-requires c =
    let room = rw (← c.self.view_is) at c.requires.room in
    let few = rw (← c.self.view_is) at c.requires.few in
    record { room = omega (arith, room, c.self.invariant.cookie_room); fits = omega (arith, few, c.self.invariant.stands.bounded.cookies) }

pub issue-requires : goal.issue-requires
issue-requires c =
    let few = rw (← c.self.view_is) at c.requires.few in
    record {
      connected = rw (← c.self.view_is) at c.requires.connected;
      known = rw (← c.self.view_is) at c.requires.known;
      fits = omega (arith, few, c.self.invariant.stands.bounded.sums c.args.held.object);
    }

pub invariant_of-self : goal.invariant_of-self
invariant_of-self c =
    let room = rw (← c.self.view_is) at c.requires.room in
    let connected = rw (← c.self.view_is) at c.requires.connected in
    let known = rw (← c.self.view_is) at c.requires.known in
    whole_by _ _ _ _ _ _ _ _ _ _ _ _ _ 1 c.self.invariant refl (omega (arith, room)) (omega arith) (omega (arith, c.issue.ensures.stub_room)) (omega arith) (omega arith) (omega (arith, c.register-cookie.ensures.spare))
    (registered_stands _ _ c.args.held (record { objects = refl; stubs = c.issue.ensures.stubs; counters = c.issue.ensures.counters; proxies = refl; packets = refl; cookies = c.register-cookie.ensures.entries; issued = refl }) connected known c.self.invariant.stands)

pub returns-clause-books : goal.returns-clause-books
returns-clause-books c =
    let connected = rw (← c.self.view_is) at c.requires.connected in
    let known = rw (← c.self.view_is) at c.requires.known in
    rw (← c.self.view_is) (registered_books _ _ c.args.held (record { objects = refl; stubs = c.issue.ensures.stubs; counters = c.issue.ensures.counters; proxies = refl; packets = refl; cookies = c.register-cookie.ensures.entries; issued = refl }) connected known)

pub returns-clause-places : goal.returns-clause-places
returns-clause-places c = rw (← c.self.view_is) (same_counted _ _ refl refl)

pub returns-clause-offers : goal.returns-clause-offers
returns-clause-offers c = λ x j. rw (← c.self.view_is) (ap (λ cs. has_counter cs x j) c.issue.ensures.counters ∙ has_more _ c.args.held.object c.args.held.iface 1 x j)
