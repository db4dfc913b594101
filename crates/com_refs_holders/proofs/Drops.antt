-- A packet that ends, in the tables and in the books.
use Rattle.std.proofs.Common.{◌≡◌, ℕ, zero, suc, Bool, true, false, eqb, cond, ◌&&◌, ◌-◌, ◌≤◌, List, [], ◌∷◌, length, refl, sym, ap, subst, ◌∙◌, arith}
use Rattle.std.proofs.lemmas.Grind.{common_steps}
use Rattle.std.specs.Prelude.{map, Option, Some, None, slice_index_or}
use Rattle.com_packets.specs.declared.Packet as P
use Rattle.com_slots.specs.Table.{with_entry, held_in}
use Rattle.com_stub.specs.declared.counters.CounterRow.{CounterRow}
use Rattle.com_stub.specs.StubRows.{is_connected, has_stub}
use Rattle.com_stub.specs.CounterRows.{counter_of, changed_counter, less, has_counter, sum_of}
use Rattle.com_refs_books.specs.Changes.{Books, packet, changed, Return, no_packet, lose_stub, at2, set_from_one}
use Rattle.com_refs_books.specs.declared.keeps.Packet.{Packet}
use Rattle.com_refs_holders.specs.Tables.{Tables, object_in, direct_in, books_of, packet_read, outstanding_in}
use Rattle.com_refs_books.specs.Evens.{Even}
use Rattle.com_refs_holders.specs.Stands.{IsEven, IsHolders}
use Rattle.com_refs_books.proofs.Evens.{changed-even}
use Rattle.com_refs_holders.proofs.Packed.{packet-sum-end}
use Rattle.com_refs_holders.proofs.Cuts.{shown, packet_shown, ended_at}
use Rattle.std.proofs.lemmas.List.{length-set}
use Rattle.com_refs_holders.specs.Places.{locals_of, distinct}
use Rattle.com_refs_holders.proofs.Counters.{has_less, sum_less}
use Rattle.com_refs_holders.proofs.Standing.{Steps, kept_proxies, kept_cookies}
use Rattle.com_refs_holders.proofs.Keeps.{same_places}
use Rattle.com_refs_holders.proofs.Same.{same_books}

counter_less : (cs : List CounterRow) (o i n x j : ℕ) → (counter_of (changed_counter (less n) o i cs) x j).count ≡ cond (eqb x o && eqb j i) ((counter_of cs x j).count - n) (counter_of cs x j).count
counter_less [] o i n x j = grind (arith, common_steps)
counter_less (c ∷ cs) o i n x j = grind (arith, common_steps, counter_less cs o i n x j)

pub stub_less : (live : ℕ → Bool) (cs : List CounterRow) (o i n x j : ℕ) → live o ≡ true
    → cond (live x) (counter_of (changed_counter (less n) o i cs) x j).count 0 ≡ at2 o i (cond (live o) (counter_of cs o i).count 0 - n) (λ k l. cond (live k) (counter_of cs k l).count 0) x j
stub_less live cs o i n x j h = grind (arith, common_steps, counter_less cs o i n x j, h)

returned : (b : Books) (n : ℕ) (q : Packet) → packet b n ≡ q → changed b (Return n) ≡ record b { stub = lose_stub b q.object q.iface q.refs; packets = set_from_one b.packets n no_packet }
returned b n q e = ap (λ (q : Packet). record b { stub = lose_stub b q.object q.iface q.refs; packets = set_from_one b.packets n no_packet }) e

pub entry_ended : (live : ℕ → Bool) (ps : List (Option P.Packet)) (n : ℕ) → map (packet_read live) (with_entry ps n None) ≡ set_from_one (map (packet_read live) ps) n no_packet
entry_ended live ps zero = refl
entry_ended live ps (suc k) = ended_at live ps k

-- what a packet takes with it is counted
pub packet_within : (t : Tables) (n : ℕ) (p : P.Packet) → IsHolders t → outstanding_in (is_connected t.stubs) t.packets n ≡ Some p → p.refs ≤ (books_of t).stub p.object p.iface
packet_within t n p s h = of_books (books_of t) n p s.even.apartments s.even.even (packet_shown t n p h).0 where
  of_books : (b : Books) (n : ℕ) (p : P.Packet) (m : ℕ) → Even m b → packet b n ≡ shown p → p.refs ≤ b.stub p.object p.iface
  of_books b zero p m e h = let no : false ≡ true = ap (λ (q : Packet). q.outstanding) h in absurd (cc)
  of_books b (suc k) p m e h =
      let out : (slice_index_or b.packets k no_packet).outstanding ≡ true = ap (λ (q : Packet). q.outstanding) h in
      let all = packet-sum-end p.object p.iface k b.packets out in
      let sum = rw h at all in
      grind (arith, common_steps, sum, e.equal p.object p.iface)

-- all but the stubs' counters and the packets stays
pub record Kept (t u : Tables) : Type 0 where
  pub objects : u.objects ≡ t.objects
  pub stubs : u.stubs ≡ t.stubs
  pub proxies : u.proxies ≡ t.proxies
  pub cookies : u.cookies ≡ t.cookies

pub dropped_books : (t u : Tables) (n : ℕ) (p : P.Packet) → Kept t u → u.counters ≡ changed_counter (less p.refs) p.object p.iface t.counters → u.packets ≡ with_entry t.packets n None
    → outstanding_in (is_connected t.stubs) t.packets n ≡ Some p → books_of u ≡ changed (books_of t) (Return n)
unfolding books_of
dropped_books t u n p k ec ep h =
    let shown_is = packet_shown t n p h in
    same_books _ (record (books_of t) { stub = lose_stub (books_of t) p.object p.iface p.refs; packets = set_from_one (books_of t).packets n no_packet }) (record {
      stub = λ x j. rw (k.stubs, ec) (stub_less (is_connected t.stubs) t.counters p.object p.iface p.refs x j shown_is.1);
      proxy = λ a x j. rw (k.stubs, k.proxies) refl;
      packets = rw (k.stubs, ep) (entry_ended (is_connected t.stubs) t.packets n);
      cookies = rw (k.stubs, k.cookies) refl;
      live = λ x. rw k.stubs refl;
      arguments = refl;
      result = refl;
    }) ∙ sym (returned (books_of t) n (shown p) shown_is.0)

drops-even : (b : Books) (n : ℕ) → (packet b n).outstanding ≡ true → IsEven b → IsEven (changed b (Return n))
drops-even b n h e = record { apartments = e.apartments; even = changed-even e.apartments b (Return n) h e.even }

pub ended_held : {T : Type 0} (ps : List (Option T)) (n m : ℕ) (q : T) → held_in (with_entry ps n None) m ≡ Some q → held_in ps m ≡ Some q
ended_held ps n zero q h = absurd (cc)
ended_held ps zero (suc m) q h = h
ended_held [] (suc n) (suc m) q h = h
ended_held (p ∷ ps) (suc zero) (suc zero) q h = absurd (cc)
ended_held (p ∷ ps) (suc zero) (suc (suc m)) q h = h
ended_held (p ∷ ps) (suc (suc n)) (suc zero) q h = h
ended_held (p ∷ ps) (suc (suc n)) (suc (suc m)) q h = ended_held ps (suc n) (suc m) q h

pub ended_length : {T : Type 0} (ps : List (Option T)) (n : ℕ) → length (with_entry ps n None) ≡ length ps
ended_length ps zero = refl
ended_length ps (suc n) = length-set ps n None

dropped-steps : (t u : Tables) (n : ℕ) (p : P.Packet) → Kept t u → u.issued ≡ t.issued → u.counters ≡ changed_counter (less p.refs) p.object p.iface t.counters → u.packets ≡ with_entry t.packets n None → IsHolders t → Steps t u 0
dropped-steps t u n p k ei ec ep s = record {
  known = record {
    objects = ap (λ os. length os) k.objects;
    stubs = λ x. ap (λ ss. has_stub ss x) k.stubs;
    counters = λ x j. ap (λ cs. has_counter cs x j) ec ∙ has_less t.counters p.object p.iface p.refs x j;
    proxies = kept_proxies t u s.known k.proxies;
    packets = λ m q h. s.known.packets m q (ended_held t.packets n m q (ap (λ ps. held_in ps m) (sym ep) ∙ h));
    cookies = kept_cookies t u s.known k.cookies;
  };
  bounded = record {
    issued = ei ∙ omega arith;
    sums = λ x. let e : sum_of u.counters x ≡ sum_of (changed_counter (less p.refs) p.object p.iface t.counters) x = ap (λ cs. sum_of cs x) ec in omega (arith, e, sum_less t.counters p.object p.iface p.refs x);
    locals = λ x. let e : locals_of x u.proxies ≡ locals_of x t.proxies = ap (λ rs. locals_of x rs) k.proxies in omega (arith, e);
    direct = λ x. let e : direct_in u x ≡ direct_in t x = ap (λ os. (object_in os x).direct) k.objects in omega (arith, e);
    packets = let e : length u.packets ≡ length t.packets = ap (λ ps. length ps) ep ∙ ended_length t.packets n in omega (arith, e);
    cookies = let e : length u.cookies ≡ length t.cookies = ap (λ gs. length gs) k.cookies in omega (arith, e);
    objects = let e : length u.objects ≡ length t.objects = ap (λ os. length os) k.objects in omega (arith, e);
  };
  apart = ap (λ rs. distinct rs) k.proxies ∙ s.apart;
}

pub dropped_stands : (t u : Tables) (n : ℕ) (p : P.Packet) → Kept t u → u.issued ≡ t.issued → u.counters ≡ changed_counter (less p.refs) p.object p.iface t.counters → u.packets ≡ with_entry t.packets n None
    → outstanding_in (is_connected t.stubs) t.packets n ≡ Some p → IsHolders t → IsHolders u
dropped_stands t u n p k ei ec ep h s = same_places t u 0 s (dropped-steps t u n p k ei ec ep s) k.stubs k.objects (λ c x j. rw k.proxies refl) (λ c x j. rw k.proxies (omega arith))
    (subst IsEven (sym (dropped_books t u n p k ec ep h)) (drops-even (books_of t) n (ap (λ (q : Packet). q.outstanding) (packet_shown t n p h).0) s.even))

pub stub_is_count : (t : Tables) (o i x : ℕ) → is_connected t.stubs o ≡ true → x ≤ (books_of t).stub o i → x ≤ cond (is_connected t.stubs o) (counter_of t.counters o i).count 0
unfolding books_of
stub_is_count t o i x h w = w
