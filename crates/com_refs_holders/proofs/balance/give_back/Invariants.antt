use Rattle.std.proofs.Common.{◌≡◌}
use Rattle.com_refs_holders.specs.Stands.{Giving, publics}
use Rattle.com_refs_holders.proofs.balance.give_back.Given as goal

abbrev pub invariant-loop-iface : goal.invariant-loop-iface
invariant-loop-iface l = record {
  stubs : l.stubs.stubs ≡ l.fn.stubs.stubs;
  stub_room : l.stubs.spare ≡ l.fn.stubs.spare;
  proxy_room : l.proxies.spare ≡ l.fn.proxies.spare;
  giving : Giving l.apartment l.object l.fn.proxies.rows l.fn.stubs.counters l.proxies.rows l.stubs.counters;
}

abbrev pub decreases-loop-iface : goal.decreases-loop-iface
decreases-loop-iface l = publics l.apartment l.object l.proxies.rows
