-- What is not connected reads as nothing: cutting is reading by fewer.
use mathlib.Core.Path.{fun_ext}
use Rattle.std.proofs.Common.{◌≡◌, ℕ, zero, suc, Bool, true, false, eqb, cond, not, ◌&&◌, length, List, [], ◌∷◌, refl, sym, ap, subst, ◌∙◌, arith}
use Rattle.std.proofs.lemmas.Grind.{common_steps}
use Rattle.std.specs.Prelude.{map, Option, Some, None, slice_index_or, slice_set}
use Rattle.com_base.specs.declared.value.RefValue.{RefValue}
use Rattle.com_packets.specs.declared.Packet as P
use Rattle.com_slots.specs.Table.{held_in}
use Rattle.com_proxy.specs.declared.ProxyRow.{ProxyRow}
use Rattle.com_proxy.specs.Rows.{local_of, IsFree}
use Rattle.com_stub.specs.declared.StubRow.{StubRow}
use Rattle.com_stub.specs.declared.counters.CounterRow.{CounterRow}
use Rattle.com_stub.specs.StubRows.{is_connected, ended_rows, has_stub}
use Rattle.com_stub.specs.CounterRows.{has_counter, sum_of}
use Rattle.com_refs_holders.specs.Places.{locals_of, distinct}
use Rattle.com_refs_holders.proofs.Standing.{stands_by, kept_proxies, kept_packets, kept_cookies}
use Rattle.com_refs_books.specs.Changes.{Books, cut, cut_packet, cut_cookie, packet, no_packet}
use Rattle.com_refs_books.specs.declared.keeps.Packet.{Packet}
use Rattle.com_refs_holders.specs.Tables.{Tables, object_in, direct_in, books_of, books_by, packet_read, cookie_read, outstanding_in, live_packet}
use Rattle.com_refs_books.specs.Evens.{Even}
use Rattle.com_refs_holders.specs.Stands.{IsHolders}
use Rattle.com_refs_books.proofs.Evens.{cut-even}
use Rattle.com_refs_holders.proofs.Same.{same_books}

both : (l m : Bool) (x : ℕ) → (m ≡ true → l ≡ true) → cond m x 0 ≡ cond m (cond l x 0) 0
both l true x h = rw (h refl) refl
both l false x h = refl

module _ (live less : ℕ → Bool) (h : (x : ℕ) → less x ≡ true → live x ≡ true) where
  one_packet : (p : Option P.Packet) → packet_read less p ≡ cut_packet less (packet_read live p)
  one_packet None = grind (arith, common_steps)
  one_packet (Some p) = elim (less p.object) as (λ m. less p.object ≡ m → packet_read less (Some p) ≡ cut_packet less (packet_read live (Some p))) [
    | true ↦ λ e. let l : live p.object ≡ true = h p.object e in rw l (rw e refl)
    | false ↦ λ e. elim (live p.object) as (λ l. packet_read less (Some p) ≡ cut_packet less (cond l (record { outstanding = true; mode = p.mode; object = p.object; iface = p.iface; refs = p.refs }) no_packet)) [
      | true ↦ rw e refl
      | false ↦ rw e (grind (arith, common_steps))
    ]
  ] refl

  one_cookie : (g : Option RefValue) → cookie_read less g ≡ cut_cookie less (cookie_read live g)
  one_cookie None = grind (arith, common_steps)
  one_cookie (Some r) = ap (λ (n : ℕ). record { is_revoked = false; object = r.object; iface = r.iface; refs = n }) (both (live r.object) (less r.object) 1 (h r.object))

  all_packets : (ps : List (Option P.Packet)) → map (packet_read less) ps ≡ map (cut_packet less) (map (packet_read live) ps)
  all_packets [] = refl
  all_packets (p ∷ ps) = ap (λ x. x ∷ map (packet_read less) ps) (one_packet p) ∙ ap (λ xs. cut_packet less (packet_read live p) ∷ xs) (all_packets ps)

  all_cookies : (gs : List (Option RefValue)) → map (cookie_read less) gs ≡ map (cut_cookie less) (map (cookie_read live) gs)
  all_cookies [] = refl
  all_cookies (g ∷ gs) = ap (λ x. x ∷ map (cookie_read less) gs) (one_cookie g) ∙ ap (λ xs. cut_cookie less (cookie_read live g) ∷ xs) (all_cookies gs)

  pub cut_reads : (cs : List CounterRow) (rs : List ProxyRow) (ps : List (Option P.Packet)) (gs : List (Option RefValue)) → books_by less cs rs ps gs ≡ cut less (books_by live cs rs ps gs)
  cut_reads cs rs ps gs = same_books _ _ (record {
    stub = λ o i. both (live o) (less o) _ (h o);
    proxy = λ a o i. both (live o) (less o) _ (h o);
    packets = all_packets ps;
    cookies = all_cookies gs;
    live = λ o. refl;
    arguments = refl;
    result = refl;
  })

pub ended_connected : (rs : List StubRow) (o x : ℕ) → is_connected (ended_rows o rs) x ≡ is_connected rs x && not (eqb x o)
ended_connected [] o x = refl
ended_connected (r ∷ rs) o x = grind (arith, common_steps, ended_connected rs o x)

-- reading by flags that agree
pub same_live : (live more : ℕ → Bool) (cs : List CounterRow) (rs : List ProxyRow) (ps : List (Option P.Packet)) (gs : List (Option RefValue)) → live ≡ more → books_by live cs rs ps gs ≡ books_by more cs rs ps gs
same_live live more cs rs ps gs e = ap (λ (l : ℕ → Bool). books_by l cs rs ps gs) e

both-true : (a b : Bool) → a && b ≡ true → a ≡ true
both-true true b h = refl
both-true false b h = h

pub ended_cut : (t u : Tables) (o : ℕ) → u.stubs ≡ ended_rows o t.stubs → u.counters ≡ t.counters → u.proxies ≡ t.proxies → u.packets ≡ t.packets → u.cookies ≡ t.cookies
    → books_of u ≡ cut (λ x. (books_of t).live x && not (eqb x o)) (books_of t)
unfolding books_of
ended_cut t u o es ec er ep eg =
    rw (es, ec, er, ep, eg)
    (same_live (is_connected (ended_rows o t.stubs)) (λ x. is_connected t.stubs x && not (eqb x o)) t.counters t.proxies t.packets t.cookies (fun_ext (ended_connected t.stubs o))
    ∙ cut_reads (is_connected t.stubs) (λ x. is_connected t.stubs x && not (eqb x o)) (λ x h. both-true _ _ h) t.counters t.proxies t.packets t.cookies)

less-read : (l m : Bool) (x : ℕ) → cond l x 0 ≡ 0 → cond m (cond l x 0) 0 ≡ 0
less-read l true x e = e
less-read l false x e = refl

-- the connected objects are those of before but for some
pub cut_by : (t u : Tables) (gone : ℕ → Bool) → ((x : ℕ) → is_connected u.stubs x ≡ is_connected t.stubs x && not (gone x)) → u.counters ≡ t.counters → u.proxies ≡ t.proxies → u.packets ≡ t.packets → u.cookies ≡ t.cookies
    → books_of u ≡ cut (λ x. (books_of t).live x && not (gone x)) (books_of t)
unfolding books_of
cut_by t u gone es ec er ep eg =
    rw (ec, er, ep, eg)
    (same_live (is_connected u.stubs) (λ x. is_connected t.stubs x && not (gone x)) t.counters t.proxies t.packets t.cookies (fun_ext es)
    ∙ cut_reads (is_connected t.stubs) (λ x. is_connected t.stubs x && not (gone x)) (λ x h. both-true _ _ h) t.counters t.proxies t.packets t.cookies)

pub ended_has : (rs : List StubRow) (o x : ℕ) → has_stub (ended_rows o rs) x ≡ has_stub rs x
ended_has [] o x = refl
ended_has (r ∷ rs) o x = grind (arith, common_steps, ended_has rs o x)

-- where fewer objects are connected, and all else is as it was
pub cut_stands : (t u : Tables) (less : ℕ → Bool) → ((x : ℕ) → has_stub u.stubs x ≡ has_stub t.stubs x) → u.objects ≡ t.objects → u.counters ≡ t.counters → u.proxies ≡ t.proxies → u.packets ≡ t.packets → u.cookies ≡ t.cookies → u.issued ≡ t.issued
    → books_of u ≡ cut less (books_of t) → IsHolders t → IsHolders u
cut_stands t u less es eo ec er ep eg ei is s = stands_by t u 0 s (record {
  known = record {
    objects = ap (λ os. length os) eo;
    stubs = es;
    counters = λ x j. ap (λ cs. has_counter cs x j) ec;
    proxies = kept_proxies t u s.known er;
    packets = kept_packets t u s.known ep;
    cookies = kept_cookies t u s.known eg;
  };
  bounded = record {
    issued = ei ∙ omega arith;
    sums = λ x. let e : sum_of u.counters x ≡ sum_of t.counters x = ap (λ cs. sum_of cs x) ec in omega (arith, e);
    locals = λ x. let e : locals_of x u.proxies ≡ locals_of x t.proxies = ap (λ rs. locals_of x rs) er in omega (arith, e);
    direct = λ x. let e : direct_in u x ≡ direct_in t x = ap (λ os. (object_in os x).direct) eo in omega (arith, e);
    packets = let e : length u.packets ≡ length t.packets = ap (λ ps. length ps) ep in omega (arith, e);
    cookies = let e : length u.cookies ≡ length t.cookies = ap (λ gs. length gs) eg in omega (arith, e);
    objects = let e : length u.objects ≡ length t.objects = ap (λ os. length os) eo in omega (arith, e);
  };
  apart = ap (λ rs. distinct rs) er ∙ s.apart;
})
    (record { apartments = s.even.apartments; even = subst (Even s.even.apartments) (sym is) (cut-even s.even.apartments less (books_of t) s.even.even) })
    (λ a x j f. ap (λ (b : Books). b.proxy a x j) is ∙ cut-none (less x) _ (s.placed a x j (subst (λ (rs : List ProxyRow). IsFree rs a x) er f)))
    (λ a x j h. ap (λ rs. local_of rs a x j) er ∙ s.owned a x j (rw eo at h))
  where
    cut-none : (m : Bool) (x : ℕ) → x ≡ 0 → cond m x 0 ≡ 0
    cut-none true x e = e
    cut-none false x e = refl

pub ended_stands : (t u : Tables) (o : ℕ) → u.objects ≡ t.objects → u.stubs ≡ ended_rows o t.stubs → u.counters ≡ t.counters → u.proxies ≡ t.proxies → u.packets ≡ t.packets → u.cookies ≡ t.cookies → u.issued ≡ t.issued → IsHolders t → IsHolders u
ended_stands t u o eo es ec er ep eg ei s = cut_stands t u (λ x. (books_of t).live x && not (eqb x o)) (λ x. ap (λ ss. has_stub ss x) es ∙ ended_has t.stubs o x) eo ec er ep eg ei (ended_cut t u o es ec er ep eg) s

-- ---- a packet that ends

read_at : (live : ℕ → Bool) (ps : List (Option P.Packet)) (k : ℕ) → slice_index_or (map (packet_read live) ps) k no_packet ≡ packet_read live (slice_index_or ps k None)
read_at live [] k = refl
read_at live (p ∷ ps) zero = refl
read_at live (p ∷ ps) (suc k) = read_at live ps k

pub ended_at : (live : ℕ → Bool) (ps : List (Option P.Packet)) (k : ℕ) → map (packet_read live) (slice_set ps k None) ≡ slice_set (map (packet_read live) ps) k no_packet
ended_at live [] k = refl
ended_at live (p ∷ ps) zero = refl
ended_at live (p ∷ ps) (suc k) = ap (λ xs. packet_read live p ∷ xs) (ended_at live ps k)

abbrev pub shown : P.Packet → Packet
shown p = record { outstanding = true; mode = p.mode; object = p.object; iface = p.iface; refs = p.refs }

shown_of : (live : ℕ → Bool) (e : Option P.Packet) (p : P.Packet) → live_packet live e ≡ Some p → (packet_read live e ≡ shown p) × (live p.object ≡ true)
shown_of live None p h = absurd (cc)
shown_of live (Some q) p h = elim (live q.object) as (λ l. live q.object ≡ l → cond l (Some q) None ≡ Some p → (packet_read live (Some q) ≡ shown p) × (live p.object ≡ true)) [
  | true ↦ λ l e. let same : q ≡ p = cc in (subst (λ (r : P.Packet). packet_read live (Some q) ≡ shown r) same (rw l refl), subst (λ (r : P.Packet). live r.object ≡ true) same l)
  | false ↦ λ l e. absurd (cc)
] refl h

hidden_of : (live : ℕ → Bool) (e : Option P.Packet) → live_packet live e ≡ None → packet_read live e ≡ no_packet
hidden_of live None h = refl
hidden_of live (Some q) h = elim (live q.object) as (λ l. cond l (Some q) None ≡ None → cond l (shown q) no_packet ≡ no_packet) [
  | true ↦ λ e. absurd (cc)
  | false ↦ λ e. refl
] h

pub packet_shown : (t : Tables) (n : ℕ) (p : P.Packet) → outstanding_in (is_connected t.stubs) t.packets n ≡ Some p → (packet (books_of t) n ≡ shown p) × (is_connected t.stubs p.object ≡ true)
unfolding books_of outstanding_in
packet_shown t zero p h = absurd (cc)
packet_shown t (suc k) p h = let s = shown_of (is_connected t.stubs) (slice_index_or t.packets k None) p h in (read_at (is_connected t.stubs) t.packets k ∙ s.0, s.1)

pub packet_hidden : (t : Tables) (n : ℕ) → outstanding_in (is_connected t.stubs) t.packets n ≡ None → packet (books_of t) n ≡ no_packet
unfolding books_of outstanding_in
packet_hidden t zero h = refl
packet_hidden t (suc k) h = read_at (is_connected t.stubs) t.packets k ∙ hidden_of (is_connected t.stubs) (slice_index_or t.packets k None) h

live-held : (live : ℕ → Bool) (e : Option P.Packet) (p : P.Packet) → live_packet live e ≡ Some p → e ≡ Some p
live-held live None p h = absurd (cc)
live-held live (Some q) p h = elim (live q.object) as (λ l. cond l (Some q) None ≡ Some p → Some q ≡ Some p) [
  | true ↦ λ e. e
  | false ↦ λ e. absurd (cc)
] h

pub outstanding_held : (t : Tables) (n : ℕ) (p : P.Packet) → outstanding_in (is_connected t.stubs) t.packets n ≡ Some p → held_in t.packets n ≡ Some p
unfolding outstanding_in
outstanding_held t n p h = live-held (is_connected t.stubs) (held_in t.packets n) p h
