use Rattle.std.proofs.Common.{arith}
use Rattle.com_refs_holders.proofs.Keeps.{empty_stands}
use Rattle.com_refs_holders.proofs.Holders.new.Goals as goal

pub invariant_of-result : goal.invariant_of-result
invariant_of-result c = record {
  stands = rw (c.new.ensures.items, c.new-3.ensures.stubs, c.new-3.ensures.counters, c.new-4.ensures, c.new-5.ensures, c.new-6.ensures) empty_stands;
  keyed = rw c.new.ensures.items c.new-2.ensures;
  object_room = omega arith;
  owner_room = omega arith;
  stub_room = omega arith;
  proxy_room = omega arith;
  packet_room = omega arith;
  cookie_room = omega arith;
}
