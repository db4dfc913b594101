use Rattle.std.proofs.Common.{refl, ap, ◌∙◌, arith}
use Rattle.com_stub.specs.CounterRows.{has_counter}
use Rattle.com_stub.specs.StubRows.{is_connected}
use Rattle.com_refs_holders.proofs.Cookies.{withdrawn_books, withdrawn_stands, same_counted, cookie_count, cond-has}
use Rattle.com_refs_holders.proofs.Wholes.{whole_by}
use Rattle.com_refs_holders.proofs.Holders.withdraw.Goals as goal

pub take_back-requires : goal.take_back-requires
take_back-requires c =
    let held = rw (← c.self.view_is) at c.requires.held in
    record { counted = λ live. cookie_count _ c.args.cookie c.args.held c.self.invariant.stands held live }

pub invariant_of-self : goal.invariant_of-self
invariant_of-self c =
    let held = rw (← c.self.view_is) at c.requires.held in
    whole_by _ _ _ _ _ _ _ _ _ _ _ _ _ 0 c.self.invariant refl (omega arith) (omega arith) (omega (arith, c.take_back.ensures.spare)) (omega arith) (omega arith) (omega (arith, c.revoke.ensures.spare))
    (withdrawn_stands _ _ c.args.cookie c.args.held (record { objects = refl; stubs = c.take_back.ensures.stubs; counters = c.take_back.ensures.counters; proxies = refl; packets = refl; cookies = c.revoke.ensures.entries; issued = refl }) held c.self.invariant.stands)

pub returns-clause-books : goal.returns-clause-books
returns-clause-books c =
    let held = rw (← c.self.view_is) at c.requires.held in
    rw (← c.self.view_is) (withdrawn_books _ _ c.args.cookie c.args.held (record { objects = refl; stubs = c.take_back.ensures.stubs; counters = c.take_back.ensures.counters; proxies = refl; packets = refl; cookies = c.revoke.ensures.entries; issued = refl }) held)

pub returns-clause-places : goal.returns-clause-places
returns-clause-places c = rw (← c.self.view_is) (same_counted _ _ refl refl)

pub returns-clause-offers : goal.returns-clause-offers
returns-clause-offers c = λ x j. rw (← c.self.view_is) (ap (λ cs. has_counter cs x j) c.take_back.ensures.counters ∙ cond-has (is_connected c.self.inside.stubs.stubs c.args.held.object) _ c.args.held.object c.args.held.iface x j)
