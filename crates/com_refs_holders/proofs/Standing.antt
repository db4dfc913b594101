-- What is known of the tables and bounds their numbers, from what a call changed.
use Rattle.std.proofs.Common.{◌≡◌, ℕ, true, ◌+◌, ◌*◌, ◌≤◌, length, sym, ap, ◌∙◌, arith}
use Rattle.std.specs.Prelude.{Some}
use Rattle.com_base.specs.declared.value.RefValue.{RefValue}
use Rattle.com_packets.specs.declared.Packet as P
use Rattle.com_proxy.specs.Rows.{local_of, IsFree}
use Rattle.com_slots.specs.Table.{held_in}
use Rattle.com_stub.specs.CounterRows.{has_counter, sum_of}
use Rattle.com_stub.specs.StubRows.{has_stub}
use Rattle.com_refs_holders.specs.Tables.{Tables, books_of, owns_of, direct_in}
use Rattle.com_refs_holders.specs.Places.{locals_of, has_row, distinct}
use Rattle.com_refs_holders.specs.Stands.{Known, Bounded, IsEven, IsHolders}

pub record KnownStep (t u : Tables) : Type 0 where
  pub objects : length u.objects ≡ length t.objects
  pub stubs : (o : ℕ) → has_stub u.stubs o ≡ has_stub t.stubs o
  pub counters : (o i : ℕ) → has_counter u.counters o i ≡ has_counter t.counters o i
  pub proxies : (a o i : ℕ) → has_row u.proxies a o i ≡ true → has_counter t.counters o i ≡ true
  pub packets : (n : ℕ) (p : P.Packet) → held_in u.packets n ≡ Some p → has_counter t.counters p.object p.iface ≡ true
  pub cookies : (n : ℕ) (r : RefValue) → held_in u.cookies n ≡ Some r → has_counter t.counters r.object r.iface ≡ true

pub known_step : (t u : Tables) → Known t → KnownStep t u → Known u
known_step t u k s = record {
  stubs = λ o h. rw s.objects (k.stubs o (sym (s.stubs o) ∙ h));
  counters = λ o i h. rw s.objects (k.counters o i (sym (s.counters o i) ∙ h));
  proxies = λ a o i h. s.counters o i ∙ s.proxies a o i h;
  packets = λ n p h. s.counters p.object p.iface ∙ s.packets n p h;
  cookies = λ n r h. s.counters r.object r.iface ∙ s.cookies n r h;
}

pub kept_proxies : (t u : Tables) → Known t → u.proxies ≡ t.proxies → (a o i : ℕ) → has_row u.proxies a o i ≡ true → has_counter t.counters o i ≡ true
kept_proxies t u k e a o i h = k.proxies a o i (ap (λ rs. has_row rs a o i) (sym e) ∙ h)

pub kept_packets : (t u : Tables) → Known t → u.packets ≡ t.packets → (n : ℕ) (p : P.Packet) → held_in u.packets n ≡ Some p → has_counter t.counters p.object p.iface ≡ true
kept_packets t u k e n p h = k.packets n p (ap (λ ps. held_in ps n) (sym e) ∙ h)

pub kept_cookies : (t u : Tables) → Known t → u.cookies ≡ t.cookies → (n : ℕ) (r : RefValue) → held_in u.cookies n ≡ Some r → has_counter t.counters r.object r.iface ≡ true
kept_cookies t u k e n r h = k.cookies n r (ap (λ gs. held_in gs n) (sym e) ∙ h)

pub record BoundStep (t u : Tables) (given : ℕ) : Type 0 where
  pub issued : u.issued ≡ t.issued + given
  pub sums : (o : ℕ) → sum_of u.counters o ≤ sum_of t.counters o + 5 * given
  pub locals : (o : ℕ) → locals_of o u.proxies ≤ locals_of o t.proxies + given
  pub direct : (o : ℕ) → direct_in u o ≤ direct_in t o + given
  pub packets : length u.packets ≤ length t.packets + given
  pub cookies : length u.cookies ≤ length t.cookies + given
  pub objects : length u.objects ≤ length t.objects + given

pub bound_step : (t u : Tables) (given : ℕ) → Bounded t → BoundStep t u given → Bounded u
bound_step t u given b s = record {
  sums = λ o. omega (arith, b.sums o, s.sums o, s.issued);
  locals = λ o. omega (arith, b.locals o, s.locals o, s.issued);
  direct = λ o. omega (arith, b.direct o, s.direct o, s.issued);
  packets = omega (arith, b.packets, s.packets, s.issued);
  cookies = omega (arith, b.cookies, s.cookies, s.issued);
  objects = omega (arith, b.objects, s.objects, s.issued);
}

pub record Steps (t u : Tables) (given : ℕ) : Type 0 where
  pub known : KnownStep t u
  pub bounded : BoundStep t u given
  pub apart : distinct u.proxies ≡ true

pub stands_by : (t u : Tables) (given : ℕ) → IsHolders t → Steps t u given → IsEven (books_of u) → ((a o i : ℕ) → IsFree u.proxies a o → (books_of u).proxy a o i ≡ 0)
    → ((a o i : ℕ) → owns_of u.objects o a ≡ true → local_of u.proxies a o i ≡ 0) → IsHolders u
stands_by t u given s step even placed owned = record {
  even = even;
  placed = placed;
  owned = owned;
  known = known_step t u s.known step.known;
  bounded = bound_step t u given s.bounded step.bounded;
  apart = step.apart;
}
