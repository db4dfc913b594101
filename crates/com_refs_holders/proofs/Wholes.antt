-- What is true of the whole, beside its tables: owners under their objects, and room.
use Rattle.std.proofs.Common.{◌≡◌, ℕ, ◌+◌, ◌≤◌, sym, ◌∙◌, arith}
use Rattle.com_keyed.specs.Indices.{KeyList}
use Rattle.com_refs_holders.specs.Tables.{Tables, owners_of, books_of}
use Rattle.com_refs_holders.specs.Stands.{IsHolders, IsWhole}

-- the rooms after a call that takes so much of each at most, and as much of what is sure
pub whole_by : (t u : Tables) (owners : KeyList) (o s p k g o2 s2 p2 k2 g2 taken : ℕ) → IsWhole t owners o s p k g → owners_of u.objects ≡ owners_of t.objects → u.spare + taken ≡ t.spare
    → o ≤ o2 + taken → s ≤ s2 + taken → p ≤ p2 + taken → k ≤ k2 + taken → g ≤ g2 + taken → IsHolders u → IsWhole u owners o2 s2 p2 k2 g2
whole_by t u owners o s p k g o2 s2 p2 k2 g2 taken w eo es ho hs hp hk hg st = record {
  stands = st;
  keyed = w.keyed ∙ sym eo;
  object_room = omega (arith, w.object_room, es, ho);
  owner_room = omega (arith, w.owner_room, es);
  stub_room = omega (arith, w.stub_room, es, hs);
  proxy_room = omega (arith, w.proxy_room, es, hp);
  packet_room = omega (arith, w.packet_room, es, hk);
  cookie_room = omega (arith, w.cookie_room, es, hg);
}

pub spare_stands : (t : Tables) (m : ℕ) → IsHolders t → IsHolders (record t { spare = m })
unfolding books_of
spare_stands t m s = record {
  even = s.even;
  placed = s.placed;
  owned = s.owned;
  known = record { stubs = s.known.stubs; counters = s.known.counters; proxies = s.known.proxies; packets = s.known.packets; cookies = s.known.cookies };
  bounded = record { sums = s.bounded.sums; locals = s.bounded.locals; direct = s.bounded.direct; packets = s.bounded.packets; cookies = s.bounded.cookies; objects = s.bounded.objects };
  apart = s.apart;
}
