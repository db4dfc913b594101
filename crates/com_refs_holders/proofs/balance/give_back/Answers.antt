use Rattle.std.proofs.Common.{arith, ◌∙◌}
use Rattle.com_refs_holders.proofs.Giving.{publics_less, giving_goes_on}
use Rattle.com_refs_holders.proofs.balance.give_back.Goals as goal

pub loop-iface-smaller : goal.loop-iface-smaller
loop-iface-smaller c =
    let some = rw c.in-Some.ensures.held at c.in-Some.ensures.some in
    let less = publics_less c.loop-iface.proxies.rows c.args.apartment c.args.object c.in-Some.iface some in
    rw c.in-Some.ensures.rows (omega (arith, less, some))

pub loop-iface-preserved : goal.loop-iface-preserved
loop-iface-preserved c =
    let some = rw c.in-Some.ensures.held at c.in-Some.ensures.some in
    record {
      stubs = c.take.ensures.stubs ∙ c.loop-iface.invariant.stubs;
      stub_room = c.take.ensures.spare ∙ c.loop-iface.invariant.stub_room;
      proxy_room = c.in-Some.ensures.spare ∙ c.loop-iface.invariant.proxy_room;
      giving = rw (c.in-Some.ensures.rows, c.take.ensures.counters, c.in-Some.ensures.held) (giving_goes_on c.args.apartment c.args.object c.args.proxies.now.rows c.args.stubs.now.counters c.loop-iface.proxies.rows c.loop-iface.stubs.counters c.in-Some.iface some c.loop-iface.invariant.giving);
    }
