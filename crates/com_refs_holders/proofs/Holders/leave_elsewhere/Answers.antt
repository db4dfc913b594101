use Rattle.std.proofs.Common.{refl, ap, arith}
use Rattle.com_stub.specs.StubRows.{is_connected}
use Rattle.com_refs_holders.proofs.Keeps.{released_stands, counted_within}
use Rattle.com_refs_holders.proofs.Releases.{released_given, released_places}
use Rattle.com_refs_holders.proofs.Wholes.{whole_by}
use Rattle.com_refs_holders.proofs.Holders.leave_elsewhere.Goals as goal

pub let_go-requires : goal.let_go-requires
let_go-requires c = record {
  held = rw (← c.self.view_is) at c.requires.held;
  within = λ live j. counted_within _ c.args.apartment c.args.held.object j c.self.invariant.stands live;
}

pub invariant_of-self : goal.invariant_of-self
invariant_of-self c =
    let own = rw (← c.self.view_is) at c.requires.elsewhere in
    whole_by _ _ _ _ _ _ _ _ _ _ _ _ _ 0 c.self.invariant refl (omega arith) (omega arith) (omega (arith, c.let_go.ensures.stub_room)) (omega (arith, c.let_go.ensures.proxy_room)) (omega arith) (omega arith)
    (released_stands _ _ c.args.apartment c.args.held.object c.args.held.iface c.let_go.result c.self.invariant.stands (record { stubs = c.let_go.ensures.stubs; packets = refl; cookies = refl }) refl refl own c.let_go.ensures.released c.let_go.ensures.free)

pub returns-clause-places : goal.returns-clause-places
returns-clause-places c = rw (← c.self.view_is) (released_places _ _ c.args.apartment c.args.held.object c.args.held.iface c.let_go.result refl c.let_go.ensures.released)

pub returns-clause-connected : goal.returns-clause-connected
returns-clause-connected c = λ x. rw (← c.self.view_is) (ap (λ ss. is_connected ss x) c.let_go.ensures.stubs)

pub returns-clause-offers : goal.returns-clause-offers
returns-clause-offers c = λ x j. rw (← c.self.view_is) (c.let_go.ensures.released.has x j)

pub returns-clause-given : goal.returns-clause-given
returns-clause-given c =
    let own = rw (← c.self.view_is) at c.requires.elsewhere in
    λ n places h tells. rw (← c.self.view_is) (released_given _ _ c.args.apartment c.args.held.object c.args.held.iface c.let_go.result (record { stubs = c.let_go.ensures.stubs; packets = refl; cookies = refl }) c.let_go.ensures.released c.self.invariant.stands refl own c.let_go.ensures.free n places h tells)
