use Rattle.std.proofs.Common.{arith}
use Rattle.com_refs_holders.proofs.Wholes.{spare_stands}
use Rattle.com_refs_holders.proofs.Holders.reserve.Goals as goal

pub invariant_of-self-2 : goal.invariant_of-self-2
invariant_of-self-2 c = record {
  stands = rw (c.reserve.ensures.items, c.reserve-3.ensures.stubs, c.reserve-3.ensures.counters, c.reserve-4.ensures.rows, c.reserve-5.ensures.entries, c.reserve-6.ensures.entries) (spare_stands _ c.args.n c.self.invariant.stands);
  keyed = rw (c.reserve-2.ensures.keys, c.reserve.ensures.items) c.self.invariant.keyed;
  object_room = omega (arith, c.in_ok-reserve.ensures.ok, c.in_ok-reserve.ensures.len);
  owner_room = c.in_ok-reserve-2.ensures.room;
  stub_room = c.in_ok-reserve-3.ensures.room;
  proxy_room = c.in_ok-reserve-4.ensures.room;
  packet_room = c.in_ok-reserve-5.ensures.room;
  cookie_room = c.in_ok-reserve-6.ensures.room;
}
