-- A normal packet's references to a proxy, in the tables and in the books.
use Rattle.std.proofs.Common.{◌≡◌, ℕ, zero, suc, Bool, true, false, cond, ◌+◌, ◌≤◌, length, List, refl, sym, ap, subst, ◌∙◌, arith, inl, inr}
use Rattle.std.proofs.lemmas.Bool.{cases_lt}
use Rattle.std.proofs.lemmas.Grind.{common_steps}
use Rattle.std.specs.Prelude.{Some, None, slice_index_or, sum_by}
use Rattle.com_packets.specs.declared.Packet as P
use Rattle.com_proxy.specs.declared.ProxyRow.{ProxyRow}
use Rattle.com_proxy.specs.Rows.{public_of, changed_row, gaining}
use Rattle.com_slots.specs.Table.{with_entry, held_in}
use Rattle.com_stub.specs.StubRows.{is_connected}
use Rattle.com_refs_books.specs.Changes.{Books, packet, changed, Join, no_packet, at3, set_from_one, packet_holds_of}
use Rattle.com_refs_books.specs.declared.keeps.Packet.{Packet}
use Rattle.com_refs_holders.specs.Tables.{Tables, books_of, owns_of, outstanding_in}
use Rattle.com_refs_books.specs.Evens.{Even}
use Rattle.com_refs_holders.specs.Stands.{IsEven, IsHolders}
use Rattle.com_refs_books.proofs.Evens.{changed-even, more-even}
use Rattle.com_refs_holders.proofs.Packed.{packet-sum-end}
use Rattle.com_refs_holders.proofs.Cuts.{shown, packet_shown, outstanding_held}
use Rattle.com_stub.specs.CounterRows.{has_counter, sum_of, counter_of}
use Rattle.com_refs_holders.proofs.Rowed.{gains, grown_public}
use Rattle.com_refs_holders.proofs.Grown.{grown_stands}
use Rattle.com_refs_holders.proofs.Drops.{entry_ended, ended_held, ended_length}
use Rattle.com_refs_holders.proofs.Keeps.{term-le}
use Rattle.com_refs_holders.proofs.Same.{same_books}

joined : (b : Books) (a n : ℕ) (q : Packet) → packet b n ≡ q → changed b (Join a n) ≡ record b { proxy = at3 a q.object q.iface (b.proxy a q.object q.iface + q.refs) b.proxy; packets = set_from_one b.packets n no_packet }
joined b a n q e = ap (λ (q : Packet). record b { proxy = at3 a q.object q.iface (b.proxy a q.object q.iface + q.refs) b.proxy; packets = set_from_one b.packets n no_packet }) e

pub join_within : (b : Books) (n p a : ℕ) (q : P.Packet) → Even n b → packet b p ≡ shown q → b.proxy a q.object q.iface + q.refs ≤ b.stub q.object q.iface
join_within b n zero a q e h = let no : false ≡ true = ap (λ (r : Packet). r.outstanding) h in absurd (cc)
join_within b n (suc k) a q e h =
    let out : (slice_index_or b.packets k no_packet).outstanding ≡ true = ap (λ (r : Packet). r.outstanding) h in
    let all = packet-sum-end q.object q.iface k b.packets out in
    let sum = rw h at all in
    let refs : q.refs ≤ sum_by (packet_holds_of q.object q.iface) b.packets = grind (arith, common_steps, sum) in
    elim (cases_lt a n) [
      | inl l ↦ omega (arith, e.equal q.object q.iface, term-le n a (λ c. b.proxy c q.object q.iface) l, refs)
      | inr l ↦ omega (arith, e.equal q.object q.iface, e.past a q.object q.iface l, refs)
    ]

-- all but the proxies and the packets stays
pub record Stays (t u : Tables) : Type 0 where
  pub objects : u.objects ≡ t.objects
  pub stubs : u.stubs ≡ t.stubs
  pub counters : u.counters ≡ t.counters
  pub cookies : u.cookies ≡ t.cookies

pub proxy-at : (live : ℕ → Bool) (rs : List ProxyRow) (a o i n c x j : ℕ) → live o ≡ true
    → cond (live x) (public_of (changed_row (gaining n) a o i rs) c x j) 0 ≡ at3 a o i (cond (live o) (public_of rs a o i) 0 + n) (λ d k l. cond (live k) (public_of rs d k l) 0) c x j
proxy-at live rs a o i n c x j h = grind (arith, common_steps, grown_public (gaining n) n (gains n) a o i rs c x j, h)

pub joined_books : (t u : Tables) (a n : ℕ) (p : P.Packet) → Stays t u → u.proxies ≡ changed_row (gaining p.refs) a p.object p.iface t.proxies → u.packets ≡ with_entry t.packets n None
    → outstanding_in (is_connected t.stubs) t.packets n ≡ Some p
    → books_of u ≡ changed (books_of t) (Join a n)
unfolding books_of
joined_books t u a n p k er ep h =
    let shown_is = packet_shown t n p h in
    same_books _ (record (books_of t) { proxy = at3 a p.object p.iface ((books_of t).proxy a p.object p.iface + p.refs) (books_of t).proxy; packets = set_from_one (books_of t).packets n no_packet }) (record {
      stub = λ x j. rw (k.stubs, k.counters) refl;
      proxy = λ c x j. rw (k.stubs, er) (proxy-at (is_connected t.stubs) t.proxies a p.object p.iface p.refs c x j shown_is.1);
      packets = rw (k.stubs, ep) (entry_ended (is_connected t.stubs) t.packets n);
      cookies = rw (k.stubs, k.cookies) refl;
      live = λ x. rw k.stubs refl;
      arguments = refl;
      result = refl;
    }) ∙ sym (joined (books_of t) a n (shown p) shown_is.0)

joins-even : (b : Books) (a n : ℕ) (q : Packet) → packet b n ≡ q → q.outstanding ≡ true → IsEven b → IsEven (changed b (Join a n))
joins-even b a n q e o v =
    let out : (packet b n).outstanding ≡ true = ap (λ (r : Packet). r.outstanding) e ∙ o in
    record { apartments = v.apartments + (a + 1); even = changed-even (v.apartments + (a + 1)) b (Join a n) (omega arith, out) (more-even v.apartments (v.apartments + (a + 1)) b (omega arith) v.even) }

pub joined_stands : (t u : Tables) (a n : ℕ) (p : P.Packet) → Stays t u → u.issued ≡ t.issued + 1 → u.proxies ≡ changed_row (gaining p.refs) a p.object p.iface t.proxies → u.packets ≡ with_entry t.packets n None
    → outstanding_in (is_connected t.stubs) t.packets n ≡ Some p → owns_of t.objects p.object a ≡ false → IsHolders t → IsHolders u
joined_stands t u a n p k ei er ep h w s =
    let shown_is = packet_shown t n p h in
    let held : held_in t.packets n ≡ Some p = outstanding_held t n p h in
    grown_stands (gaining p.refs) p.refs (gains p.refs) a p.object p.iface t u (record {
      objects = k.objects;
      stubs = k.stubs;
      has = λ x j. ap (λ cs. has_counter cs x j) k.counters;
      sums = λ x. let e : sum_of u.counters x ≡ sum_of t.counters x = ap (λ cs. sum_of cs x) k.counters in omega (arith, e);
      proxies = er;
      packets = λ m q g. s.known.packets m q (ended_held t.packets n m q (ap (λ ps. held_in ps m) (sym ep) ∙ g));
      many = let e : length u.packets ≡ length t.packets = ap (λ ps. length ps) ep ∙ ended_length t.packets n in omega (arith, e);
      cookies = k.cookies;
      issued = ei;
    }) (s.known.packets n p held) w (subst IsEven (sym (joined_books t u a n p k er ep h)) (joins-even (books_of t) a n (shown p) shown_is.0 refl s.even)) s

plain : (l : Bool) (x y z : ℕ) → l ≡ true → cond l x 0 + y ≤ cond l z 0 → x + y ≤ z
plain true x y z e h = h
plain false x y z e h = absurd (cc)

pub join_count : (t : Tables) (a n : ℕ) (p : P.Packet) → IsHolders t → outstanding_in (is_connected t.stubs) t.packets n ≡ Some p → public_of t.proxies a p.object p.iface + p.refs ≤ (counter_of t.counters p.object p.iface).count
unfolding books_of
join_count t a n p s h =
    let shown_is = packet_shown t n p h in
    plain (is_connected t.stubs p.object) _ _ _ shown_is.1 (join_within (books_of t) s.even.apartments n a p s.even.even shown_is.0)
