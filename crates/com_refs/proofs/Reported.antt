-- The numbers of a report are those of the books.
use Rattle.std.proofs.Common.{◌≡◌, ℕ, Bool, true, false, eqb, cond, ◌+◌, ◌<◌, ◌≤◌, List, [], ◌∷◌, refl, sym, ap, ◌∙◌, arith, eqb-true}
use Rattle.std.proofs.lemmas.Grind.{common_steps}
use Rattle.std.specs.Prelude.{Option, None, Some, map, sum_by}
use Rattle.com_base.specs.declared.value.RefValue.{RefValue}
use Rattle.com_packets.specs.declared.Packet as P
use Rattle.com_packets.specs.Sums.{normal_sum}
use Rattle.com_proxy.specs.Rows.{public_of, public_sum}
use Rattle.com_stub.specs.StubRows.{is_connected}
use Rattle.com_stub.specs.CounterRows as counters
use Rattle.com_refs_books.specs.Counting.{sum_below}
use Rattle.com_refs_books.proofs.Sums.{sum-same, sum-nothing}
use Rattle.com_refs_books.specs.Changes.{packet_holds_of, cookie_holds_of, in_normal, in_table, in_cookie}
use Rattle.com_refs_holders.specs.Tables.{Tables, books_of, packet_read, cookie_read}
use Rattle.com_refs_holders.specs.Places.{distinct, has_row}
use Rattle.com_refs_holders.specs.Stands.{Known, IsEven}
use Rattle.com_refs_holders.proofs.Rowed.{places_none}
use Rattle.com_proxy.specs.Rows.{IsFree}
use Rattle.com_refs.specs.Numbers.{Within}
use Rattle.com_refs.proofs.Numbered.{sum-add, sum_swap, proxies_sum, packets_sum, cookies_sum, counters_sum, normal_is}

-- ---- an object that is not connected

dead-packet : (live : ℕ → Bool) (o : ℕ) (x : Option P.Packet) → live o ≡ false → (in_normal o (packet_read live x) ≡ 0) × (in_table o (packet_read live x) ≡ 0)
dead-packet live o None l = (refl, refl)
dead-packet live o (Some p) l = elim (eqb p.object o) as (λ y. eqb p.object o ≡ y → (in_normal o (packet_read live (Some p)) ≡ 0) × (in_table o (packet_read live (Some p)) ≡ 0)) [
  | true ↦ λ y. let off : live p.object ≡ false = rw (eqb-true p.object o y) l in (grind (arith, common_steps, off), grind (arith, common_steps, off))
  | false ↦ λ y. (grind (arith, common_steps, y), grind (arith, common_steps, y))
] refl

dead-cookie : (live : ℕ → Bool) (o : ℕ) (x : Option RefValue) → live o ≡ false → in_cookie o (cookie_read live x) ≡ 0
dead-cookie live o None l = grind (arith, common_steps)
dead-cookie live o (Some r) l = elim (eqb r.object o) as (λ y. eqb r.object o ≡ y → in_cookie o (cookie_read live (Some r)) ≡ 0) [
  | true ↦ λ y. let off : live r.object ≡ false = rw (eqb-true r.object o y) l in grind (arith, common_steps, off)
  | false ↦ λ y. grind (arith, common_steps, y)
] refl

dead-packets : (live : ℕ → Bool) (o : ℕ) (ps : List (Option P.Packet)) → live o ≡ false → (sum_by (in_normal o) (map (packet_read live) ps) ≡ 0) × (sum_by (in_table o) (map (packet_read live) ps) ≡ 0)
dead-packets live o [] l = (refl, refl)
dead-packets live o (x ∷ ps) l =
    let here = dead-packet live o x l in
    let rest = dead-packets live o ps l in
    (grind (arith, common_steps, here.0, rest.0), grind (arith, common_steps, here.1, rest.1))

dead-cookies : (live : ℕ → Bool) (o : ℕ) (gs : List (Option RefValue)) → live o ≡ false → sum_by (in_cookie o) (map (cookie_read live) gs) ≡ 0
dead-cookies live o [] l = refl
dead-cookies live o (x ∷ gs) l = grind (arith, common_steps, dead-cookie live o x l, dead-cookies live o gs l)

module _ (t : Tables) (o : ℕ) (l : is_connected t.stubs o ≡ false) where
  pub dead_proxies : (n m : ℕ) → sum_below n (λ a. sum_below m ((books_of t).proxy a o)) ≡ 0
  unfolding books_of
  dead_proxies n m = sum-nothing n _ (λ a. sum-nothing m _ (λ i. ap (λ b. cond b (public_of t.proxies a o i) 0) l))

  pub dead_stub : (m : ℕ) → sum_below m ((books_of t).stub o) ≡ 0
  unfolding books_of
  dead_stub m = sum-nothing m _ (λ i. ap (λ b. cond b (counters.counter_of t.counters o i).count 0) l)

  pub dead_normal : sum_by (in_normal o) (books_of t).packets ≡ 0
  unfolding books_of
  dead_normal = (dead-packets (is_connected t.stubs) o t.packets l).0

  pub dead_tables : sum_by (in_table o) (books_of t).packets + sum_by (in_cookie o) (books_of t).cookies ≡ 0
  unfolding books_of
  dead_tables = omega (arith, (dead-packets (is_connected t.stubs) o t.packets l).1, dead-cookies (is_connected t.stubs) o t.cookies l)

-- ---- a connected object

module _ (t : Tables) (o : ℕ) (l : is_connected t.stubs o ≡ true) where
  pub live_normal : sum_by (in_normal o) (books_of t).packets ≡ normal_sum o t.packets
  unfolding books_of
  live_normal = normal_is (is_connected t.stubs) o t.packets l

  proxy-is : (a i : ℕ) → (books_of t).proxy a o i ≡ public_of t.proxies a o i
  unfolding books_of
  proxy-is a i = ap (λ b. cond b (public_of t.proxies a o i) 0) l

  stub-is : (i : ℕ) → (books_of t).stub o i ≡ (counters.counter_of t.counters o i).count
  unfolding books_of
  stub-is i = ap (λ b. cond b (counters.counter_of t.counters o i).count 0) l

  module _ (n m : ℕ) (k : Known t) (d : distinct t.proxies ≡ true) (w : Within n m t) where
    rows-below : (a i : ℕ) → has_row t.proxies a o i ≡ true → i < m
    rows-below a i h = w.interfaces o i (k.proxies a o i h)

    pub live_stub : counters.EachFirst t.counters → sum_below m ((books_of t).stub o) ≡ counters.sum_of t.counters o
    live_stub f = sum-same m ((books_of t).stub o) (λ i. (counters.counter_of t.counters o i).count) (λ i h. stub-is i) ∙ counters_sum m o t.counters f (λ i h. w.interfaces o i h)

    all-proxies : (z : ℕ) → ((a i : ℕ) → z ≤ a → (books_of t).proxy a o i ≡ 0) → sum_below z (λ a. sum_below m ((books_of t).proxy a o)) ≡ public_sum o t.proxies
    all-proxies z past =
        sum-same z (λ a. sum_below m ((books_of t).proxy a o)) (λ a. sum_below m (λ i. public_of t.proxies a o i)) (λ a h. sum-same m ((books_of t).proxy a o) (λ i. public_of t.proxies a o i) (λ i g. proxy-is a i))
        ∙ proxies_sum z m o t.proxies d rows-below (λ a i h. sym (proxy-is a i) ∙ past a i h)

    pub live_proxies : ((a x i : ℕ) → IsFree t.proxies a x → (books_of t).proxy a x i ≡ 0) → sum_below n (λ a. sum_below m ((books_of t).proxy a o)) ≡ public_sum o t.proxies
    live_proxies placed = all-proxies n (λ a i h. placed a o i (places_none t.proxies a o (w.apartments a o h)))

    all-packets : sum_below m (λ i. sum_by (packet_holds_of o i) (books_of t).packets) ≡ sum_by (in_normal o) (books_of t).packets + sum_by (in_table o) (books_of t).packets
    unfolding books_of
    all-packets = packets_sum (is_connected t.stubs) o m t.packets (λ z p h. w.interfaces p.object p.iface (k.packets z p h))

    all-cookies : sum_below m (λ i. sum_by (cookie_holds_of o i) (books_of t).cookies) ≡ sum_by (in_cookie o) (books_of t).cookies
    unfolding books_of
    all-cookies = cookies_sum (is_connected t.stubs) o m t.cookies (λ z r h. w.interfaces r.object r.iface (k.cookies z r h))

    -- the stub counts what the three of them hold
    pub live_sum : IsEven (books_of t) → counters.EachFirst t.counters
        → counters.sum_of t.counters o ≡ public_sum o t.proxies + (sum_by (in_normal o) (books_of t).packets + sum_by (in_table o) (books_of t).packets) + sum_by (in_cookie o) (books_of t).cookies
    live_sum e f =
        let z = e.apartments in
        let b = books_of t in
        let parts : sum_below m (b.stub o) ≡ sum_below m (λ i. sum_below z (λ a. b.proxy a o i)) + sum_below m (λ i. sum_by (packet_holds_of o i) b.packets) + sum_below m (λ i. sum_by (cookie_holds_of o i) b.cookies) =
        sum-same m (b.stub o) (λ i. sum_below z (λ a. b.proxy a o i) + sum_by (packet_holds_of o i) b.packets + sum_by (cookie_holds_of o i) b.cookies) (λ i h. e.even.equal o i)
        ∙ sum-add m (λ i. sum_below z (λ a. b.proxy a o i) + sum_by (packet_holds_of o i) b.packets) (λ i. sum_by (cookie_holds_of o i) b.cookies)
        ∙ ap (λ (s : ℕ). s + sum_below m (λ i. sum_by (cookie_holds_of o i) b.cookies)) (sum-add m (λ i. sum_below z (λ a. b.proxy a o i)) (λ i. sum_by (packet_holds_of o i) b.packets)) in
        let proxies : sum_below m (λ i. sum_below z (λ a. b.proxy a o i)) ≡ public_sum o t.proxies = sym (sum_swap z m (λ a i. b.proxy a o i)) ∙ all-proxies z (λ a i h. e.even.past a o i h) in
        omega (arith, sym (live_stub f), parts, proxies, all-packets, all-cookies)
