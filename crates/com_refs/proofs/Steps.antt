-- Holders less and more, from what a call of the tables did.
use Rattle.std.proofs.Common.{◌≡◌, ℕ, Bool, true, false, eqb, cond, not, ◌&&◌, ◌+◌, ◌/◌, ◌<◌, ◌≤◌, List, [], ◌∷◌, ◌++◌, zero, suc, length, refl, sym, ap, ◌∙◌, arith}
use Rattle.std.proofs.lemmas.Grind.{common_steps}
use Rattle.std.specs.Prelude.{Some, nat_le, sum_by, slice_set, slice_index_or}
use Rattle.com_base.specs.declared.value.RefValue.{RefValue}
use Rattle.com_packets.specs.declared.Packet as P
use Rattle.com_stub.specs.StubRows.{is_connected}
use Rattle.com_refs_books.specs.Counting.{count_if}
use Rattle.com_base.specs.declared.value.MarshalMode.{MarshalMode}
use Rattle.com_base.specs.declared.value.MarshalMode.TheVariants as marshal
use Rattle.com_slots.specs.Table.{held_in}
use Rattle.com_refs_books.specs.Changes.{Books, held_outside, packet_holds, cookie_holds, packet, cookie, no_cookie, new_packet, is_weak, cut, Change, changed, change, marshal_change, ToProxy, ToPacket, Split, Join, Return, ToCookie, Withdraw, Same, Marshals, Asks, Takes, Drops, Revokes, Unmarshals}
use Rattle.com_refs_books.specs.declared.keeps.Packet.{Packet}
use Rattle.com_refs_books.specs.declared.keeps.Cookie.{Cookie}
use Rattle.com_refs_holders.proofs.Cuts.{shown, packet_shown}
use Rattle.com_refs_holders.proofs.Choices.{drops, returns, joins, keeps_table, takes_table}
use Rattle.com_refs_holders.proofs.Cookies.{cookie_of, cookie_shown}
use Rattle.com_refs.proofs.Outside.{outside-end, outside-join}
use Rattle.com_refs.proofs.Ends.{holds-kept, holds-same}
use Rattle.com_refs_holders.specs.Tables.{Tables, books_of, owns_of, outstanding_in, direct_in, object_in}
use Rattle.com_refs_holders.specs.Places.{OneMore, OneLess, SamePlaces, locals_of}
use Rattle.com_refs.specs.Counts.{hold_of, IsCounted, IsCountedBut, hold_less, hold_more}
use Rattle.com_refs.proofs.Counteds.{lost, gained, still}

live-of : (t v : Tables) → ((x : ℕ) → is_connected v.stubs x ≡ is_connected t.stubs x) → (x : ℕ) → (books_of v).live x ≡ (books_of t).live x
unfolding books_of
live-of t v h = h

outside-by : (t v : Tables) (x : ℕ) → is_connected v.stubs ≡ is_connected t.stubs → v.packets ≡ t.packets → v.cookies ≡ t.cookies → held_outside (books_of v) x ≡ held_outside (books_of t) x
unfolding books_of
outside-by t v x es ep eg = rw (es, ep, eg) refl

pub released : (t v : Tables) (hs : List ℕ) (a o : ℕ) (owned : Bool) → IsCounted t hs → OneLess t v a o owned → is_connected v.stubs ≡ is_connected t.stubs → v.packets ≡ t.packets → v.cookies ≡ t.cookies → v.issued ≡ t.issued
    → IsCountedBut v (hold_less o (not owned) hs) o
released t v hs a o owned c m es ep eg ei = lost t v hs o (not owned) c (live-of t v (λ x. ap (λ (l : ℕ → Bool). l x) es))
    (λ x. omega (arith, outside-by t v x es ep eg, m.all_elsewhere x))
    (λ x n. let same : direct_in v x + count_if (owned && eqb x o) ≡ direct_in t x = m.direct x in grind (arith, common_steps, same, n))
    m.made (omega (arith, ei))

pub copied : (t v : Tables) (hs : List ℕ) (a o : ℕ) (owned : Bool) → IsCounted t hs → OneMore t v a o owned → books_of v ≡ books_of t → v.issued ≡ t.issued + 1 → 0 < o → o ≤ length t.objects
    → IsCounted v (hold_more o (not owned) hs)
copied t v hs a o owned c m es ei some made = gained t v hs o (not owned) c (λ x. ap (λ (b : Books). b.live x) es)
    (λ x. omega (arith, ap (λ (b : Books). held_outside b x) es, m.all_elsewhere x))
    (λ x. omega (arith, m.direct x))
    m.made ei some made

-- ---- rows that give a packet or a cookie, and rows that take a place

changed-live : (b : Books) (c : Change) (x : ℕ) → (changed b c).live x ≡ b.live x
changed-live b (ToProxy a o i n) x = refl
changed-live b (ToPacket m o i n) x = refl
changed-live b (Split a o i n) x = refl
changed-live b (Join a p) x = refl
changed-live b (Return p) x = refl
changed-live b (ToCookie o i n) x = refl
changed-live b (Withdraw g) x = refl
changed-live b Same x = refl

pub live-row : (t v : Tables) (c : Change) → books_of v ≡ changed (books_of t) c → (x : ℕ) → (books_of v).live x ≡ (books_of t).live x
live-row t v c e x = ap (λ (b : Books). b.live x) e ∙ changed-live (books_of t) c x

pushed : (ps : List Packet) (m : MarshalMode) (o i n x : ℕ) → sum_by (packet_holds x) (ps ++ new_packet m o i n ∷ []) ≡ sum_by (packet_holds x) ps + count_if (not (is_weak m) && eqb x o)
pushed ps m o i n x = grind (arith, common_steps)

packet-more : (b : Books) (m : MarshalMode) (o i n x : ℕ) → held_outside (changed b (ToPacket m o i n)) x ≡ held_outside b x + count_if (not (is_weak m) && eqb x o)
packet-more b m o i n x = omega (arith, pushed b.packets m o i n x)

split-more : (b : Books) (a o i n x : ℕ) → held_outside (changed b (Split a o i n)) x ≡ held_outside b x + count_if (true && eqb x o)
split-more b a o i n x = omega (arith, pushed b.packets marshal.Normal o i n x)

normal-more : (b : Books) (w t : Bool) (a o i n x : ℕ) → held_outside (changed b (cond w (ToPacket marshal.Normal o i 5) (cond t (Split a o i n) (ToPacket marshal.Normal o i 5)))) x ≡ held_outside b x + count_if (true && eqb x o)
normal-more b true t a o i n x = packet-more b marshal.Normal o i 5 x
normal-more b false true a o i n x = split-more b a o i n x
normal-more b false false a o i n x = packet-more b marshal.Normal o i 5 x

by-mode : (b : Books) (m : MarshalMode) (w : Bool) (a o i x : ℕ) → held_outside (changed b (marshal_change m w (b.proxy a o i) a o i)) x ≡ held_outside b x + count_if (not (is_weak m) && eqb x o)
by-mode b marshal.Normal w a o i x = normal-more b w (nat_le 2 (b.proxy a o i)) a o i (b.proxy a o i / 2) x
by-mode b marshal.Strong w a o i x = packet-more b marshal.Strong o i 1 x
by-mode b marshal.Weak w a o i x = packet-more b marshal.Weak o i 0 x

marshals-outside : (owns : ℕ → ℕ → Bool) (b : Books) (m : MarshalMode) (a o i x : ℕ) → b.live o ≡ true → held_outside (changed b (change owns b (Marshals a m o i))) x ≡ held_outside b x + count_if (not (is_weak m) && eqb x o)
marshals-outside owns b m a o i x l = ap (λ (t : Bool). held_outside (changed b (cond t (marshal_change m (owns o a) (b.proxy a o i) a o i) Same)) x) l ∙ by-mode b m (owns o a) a o i x

cookie-more : (b : Books) (o i x : ℕ) → held_outside (changed b (ToCookie o i 1)) x ≡ held_outside b x + count_if (true && eqb x o)
cookie-more b o i x = grind (arith, common_steps)

none-more : (b : Books) (t : Bool) (a o i x : ℕ) → held_outside (changed b (cond t (ToProxy a o i 5) Same)) x ≡ held_outside b x
none-more b true a o i x = refl
none-more b false a o i x = refl

live-books : (t : Tables) (o : ℕ) → is_connected t.stubs o ≡ true → (books_of t).live o ≡ true
unfolding books_of
live-books t o h = h

pub marshalled : (t v : Tables) (hs : List ℕ) (m : MarshalMode) (a o i : ℕ) → IsCounted t hs → is_connected t.stubs o ≡ true → books_of v ≡ changed (books_of t) (change (owns_of t.objects) (books_of t) (Marshals a m o i))
    → SamePlaces t v → v.issued ≡ t.issued + 1 → 0 < o → o ≤ length t.objects → IsCounted v (hold_more o (not (is_weak m)) hs)
marshalled t v hs m a o i c h e p ei some made = gained t v hs o (not (is_weak m)) c (live-row t v _ e)
    (λ x. let out : held_outside (books_of v) x ≡ held_outside (books_of t) x + count_if (not (is_weak m) && eqb x o) = ap (λ (b : Books). held_outside b x) e ∙ marshals-outside (owns_of t.objects) (books_of t) m a o i x (live-books t o h) in
    omega (arith, out, p.all_elsewhere x))
    (λ x. omega (arith, p.direct x)) p.made ei some made

pub registered : (t v : Tables) (hs : List ℕ) (o i : ℕ) → IsCounted t hs → books_of v ≡ changed (books_of t) (ToCookie o i 1) → SamePlaces t v → v.issued ≡ t.issued + 1 → 0 < o → o ≤ length t.objects → IsCounted v (hold_more o true hs)
registered t v hs o i c e p ei some made = gained t v hs o true c (live-row t v (ToCookie o i 1) e)
    (λ x. let out : held_outside (books_of v) x ≡ held_outside (books_of t) x + count_if (true && eqb x o) = ap (λ (b : Books). held_outside b x) e ∙ cookie-more (books_of t) o i x in
    omega (arith, out, p.all_elsewhere x))
    (λ x. omega (arith, p.direct x)) p.made ei some made

pub asked : (t v : Tables) (hs : List ℕ) (a o i : ℕ) (owned : Bool) → IsCounted t hs → books_of v ≡ changed (books_of t) (change (owns_of t.objects) (books_of t) (Asks a o i)) → OneMore t v a o owned → v.issued ≡ t.issued + 1 → 0 < o → o ≤ length t.objects
    → IsCounted v (hold_more o (not owned) hs)
asked t v hs a o i owned c e m ei some made = gained t v hs o (not owned) c (live-row t v _ e)
    (λ x. let out : held_outside (books_of v) x ≡ held_outside (books_of t) x = ap (λ (b : Books). held_outside b x) e ∙ none-more (books_of t) _ a o i x in
    omega (arith, out, m.all_elsewhere x))
    (λ x. omega (arith, m.direct x)) m.made ei some made

pub took : (t v : Tables) (hs : List ℕ) (a o i : ℕ) (owned : Bool) → IsCounted t hs → books_of v ≡ changed (books_of t) (change (owns_of t.objects) (books_of t) (Takes a o i)) → OneMore t v a o owned → v.issued ≡ t.issued + 1 → 0 < o → o ≤ length t.objects
    → IsCounted v (hold_more o (not owned) hs)
took t v hs a o i owned c e m ei some made = gained t v hs o (not owned) c (live-row t v _ e)
    (λ x. let out : held_outside (books_of v) x ≡ held_outside (books_of t) x = ap (λ (b : Books). held_outside b x) e ∙ none-more (books_of t) _ a o i x in
    omega (arith, out, m.all_elsewhere x))
    (λ x. omega (arith, m.direct x)) m.made ei some made

-- ---- a packet or a cookie that ends

shown-holds : (p : P.Packet) (x : ℕ) → packet_holds x (shown p) ≡ count_if (not (is_weak p.mode) && eqb x p.object)
shown-holds p x = grind (arith, common_steps)

pub dropped : (t v : Tables) (hs : List ℕ) (n : ℕ) (p : P.Packet) → IsCounted t hs → outstanding_in (is_connected t.stubs) t.packets n ≡ Some p → books_of v ≡ changed (books_of t) (Return n) → SamePlaces t v → v.issued ≡ t.issued
    → IsCountedBut v (hold_less p.object (not (is_weak p.mode)) hs) p.object
dropped t v hs n p c h e s ei =
    let is : packet (books_of t) n ≡ shown p = (packet_shown t n p h).0 in
    let out : (packet (books_of t) n).outstanding ≡ true = ap (λ (q : Packet). q.outstanding) is in
    lost t v hs p.object (not (is_weak p.mode)) c (live-row t v (Return n) e)
    (λ x.
    let less : held_outside (books_of v) x + packet_holds x (packet (books_of t) n) ≡ held_outside (books_of t) x = ap (λ (b : Books). held_outside b x + packet_holds x (packet (books_of t) n)) e ∙ outside-end (books_of t) n x out in
    let one : packet_holds x (packet (books_of t) n) ≡ count_if (not (is_weak p.mode) && eqb x p.object) = ap (λ (q : Packet). packet_holds x q) is ∙ shown-holds p x in
    omega (arith, less, one, s.all_elsewhere x))
    (λ x other. s.direct x) s.made (omega (arith, ei))

cookie-ends : (gs : List Cookie) (k x : ℕ) → (slice_index_or gs k no_cookie).is_revoked ≡ false → sum_by (cookie_holds x) (slice_set gs k no_cookie) + count_if (eqb (slice_index_or gs k no_cookie).object x) ≡ sum_by (cookie_holds x) gs
cookie-ends [] k x h = absurd (cc)
cookie-ends (g ∷ gs) zero x h = grind (arith, common_steps, h)
cookie-ends (g ∷ gs) (suc k) x h = grind (arith, common_steps, cookie-ends gs k x h)

cookie-less : (b : Books) (n x : ℕ) → (cookie b n).is_revoked ≡ false → held_outside (changed b (Withdraw n)) x + count_if (eqb (cookie b n).object x) ≡ held_outside b x
cookie-less b zero x h = absurd (cc)
cookie-less b (suc k) x h = omega (arith, cookie-ends b.cookies k x h)

pub revoked : (t v : Tables) (hs : List ℕ) (n : ℕ) (r : RefValue) → IsCounted t hs → held_in t.cookies n ≡ Some r → books_of v ≡ changed (books_of t) (Withdraw n) → SamePlaces t v → v.issued ≡ t.issued
    → IsCountedBut v (hold_less r.object true hs) r.object
revoked t v hs n r c h e s ei =
    let is : cookie (books_of t) n ≡ cookie_of (is_connected t.stubs r.object) r = cookie_shown t n r h in
    let held : (cookie (books_of t) n).is_revoked ≡ false = ap (λ (g : Cookie). g.is_revoked) is in
    let object : (cookie (books_of t) n).object ≡ r.object = ap (λ (g : Cookie). g.object) is in
    lost t v hs r.object true c (live-row t v (Withdraw n) e)
    (λ x.
    let less : held_outside (books_of v) x + count_if (eqb (cookie (books_of t) n).object x) ≡ held_outside (books_of t) x = ap (λ (b : Books). held_outside b x + count_if (eqb (cookie (books_of t) n).object x)) e ∙ cookie-less (books_of t) n x held in
    let one : count_if (eqb (cookie (books_of t) n).object x) ≡ count_if (true && eqb x r.object) = ap (λ (o : ℕ). count_if (eqb o x)) object ∙ grind (arith, common_steps) in
    omega (arith, less, one, s.all_elsewhere x))
    (λ x other. s.direct x) s.made (omega (arith, ei))

-- ---- fewer objects that are connected

and-left : (p q : Bool) → p && q ≡ true → p ≡ true
and-left true q h = refl
and-left false q h = h

pub cut_counted : (t u : Tables) (gone : ℕ → Bool) (hs : List ℕ) → books_of u ≡ cut (λ x. (books_of t).live x && not (gone x)) (books_of t) → u.objects ≡ t.objects → u.proxies ≡ t.proxies → u.issued ≡ t.issued → IsCounted t hs → IsCounted u hs
cut_counted t u gone hs e eo er ei c = record {
  counted = λ x l. c.counted x (and-left _ _ (on x l)) ∙ omega (arith, out x l, ap (λ rs. locals_of x rs) er);
  tidy = λ x l. omega (arith, c.tidy x (and-left _ _ (on x l)), out x l, ap (λ rs. locals_of x rs) er, ap (λ os. (object_in os x).direct) eo);
  as_many = c.as_many ∙ ap (λ os. length os) (sym eo);
  small = λ x. omega (arith, c.small x, ei);
} where
  on : (x : ℕ) → (books_of u).live x ≡ true → ((books_of t).live x && not (gone x)) ≡ true
  on x l = sym (ap (λ (b : Books). b.live x) e) ∙ l

  out : (x : ℕ) → (books_of u).live x ≡ true → held_outside (books_of u) x ≡ held_outside (books_of t) x
  out x l = ap (λ (b : Books). held_outside b x) e ∙ omega (arith, holds-kept (λ x. (books_of t).live x && not (gone x)) x (on x l) (books_of t).packets, holds-same (λ x. (books_of t).live x && not (gone x)) x (books_of t).cookies)

pub empty_counted : (t : Tables) → t.objects ≡ [] → t.stubs ≡ [] → IsCounted t []
unfolding books_of
empty_counted t eo es = record {
  counted = λ x l. let none : is_connected t.stubs x ≡ false = ap (λ ss. is_connected ss x) es in absurd (cc);
  tidy = λ x l. let none : is_connected t.stubs x ≡ false = ap (λ ss. is_connected ss x) es in absurd (cc);
  as_many = sym (ap (λ os. length os) eo);
  small = λ x. let z : hold_of [] x ≡ 0 = none-held x in omega (arith, z);
} where
  none-held : (x : ℕ) → hold_of [] x ≡ 0
  none-held zero = refl
  none-held (suc x) = refl

pub drop_row : (t : Tables) (n : ℕ) (p : P.Packet) → outstanding_in (is_connected t.stubs) t.packets n ≡ Some p → changed (books_of t) (change (owns_of t.objects) (books_of t) (Drops n)) ≡ changed (books_of t) (Return n)
drop_row t n p h = drops (owns_of t.objects) (books_of t) 0 n (shown p) (packet_shown t n p h).0 refl

pub revoke_row : (t : Tables) (n : ℕ) → changed (books_of t) (change (owns_of t.objects) (books_of t) (Revokes n)) ≡ changed (books_of t) (Withdraw n)
revoke_row t n = refl

-- ---- a packet that is unmarshalled

module _ (t v : Tables) (hs : List ℕ) (a n : ℕ) (p : P.Packet) (c : IsCounted t hs) (h : outstanding_in (is_connected t.stubs) t.packets n ≡ Some p)
    (e : books_of v ≡ changed (books_of t) (change (owns_of t.objects) (books_of t) (Unmarshals a n))) (ei : v.issued ≡ t.issued + 1) (some : 0 < p.object) (made : p.object ≤ length t.objects) where
  is-shown : packet (books_of t) n ≡ shown p
  is-shown = (packet_shown t n p h).0

  is-out : (packet (books_of t) n).outstanding ≡ true
  is-out = ap (λ (q : Packet). q.outstanding) is-shown

  holds-one : (x : ℕ) → p.mode ≡ marshal.Normal → packet_holds x (packet (books_of t) n) ≡ count_if (eqb x p.object)
  holds-one x m = ap (λ (q : Packet). packet_holds x q) is-shown ∙ shown-holds p x ∙ ap (λ (m : MarshalMode). count_if (not (is_weak m) && eqb x p.object)) m

  normal-here : p.mode ≡ marshal.Normal → owns_of t.objects p.object a ≡ true → OneMore t v a p.object true → IsCounted v (hold_less p.object true hs)
  normal-here m w one =
      let r : books_of v ≡ changed (books_of t) (Return n) = e ∙ returns (owns_of t.objects) (books_of t) a n (shown p) is-shown refl m w in
      still v (hold_less p.object true hs) p.object
      (lost t v hs p.object true c (live-row t v (Return n) r)
      (λ x.
      let less : held_outside (books_of v) x + packet_holds x (packet (books_of t) n) ≡ held_outside (books_of t) x = ap (λ (b : Books). held_outside b x + packet_holds x (packet (books_of t) n)) r ∙ outside-end (books_of t) n x is-out in
      let elsewhere : locals_of x v.proxies ≡ locals_of x t.proxies + 0 = one.all_elsewhere x in
      omega (arith, less, holds-one x m, elsewhere))
      (λ x other. let direct : direct_in v x ≡ direct_in t x + count_if (true && eqb x p.object) = one.direct x in grind (arith, common_steps, direct, other))
      one.made (omega (arith, ei)))
      (let direct : direct_in v p.object ≡ direct_in t p.object + count_if (true && eqb p.object p.object) = one.direct p.object in grind (arith, common_steps, direct))

  normal-elsewhere : p.mode ≡ marshal.Normal → owns_of t.objects p.object a ≡ false → OneMore t v a p.object false → IsCounted v (hold_more p.object false hs)
  normal-elsewhere m w one =
      let r : books_of v ≡ changed (books_of t) (Join a n) = e ∙ joins (owns_of t.objects) (books_of t) a n (shown p) is-shown refl m w in
      gained t v hs p.object false c (live-row t v (Join a n) r)
      (λ x.
      let less : held_outside (books_of v) x + packet_holds x (packet (books_of t) n) ≡ held_outside (books_of t) x = ap (λ (b : Books). held_outside b x + packet_holds x (packet (books_of t) n)) r ∙ outside-join (books_of t) a n x is-out in
      let elsewhere : locals_of x v.proxies ≡ locals_of x t.proxies + count_if (eqb x p.object) = one.all_elsewhere x in
      omega (arith, less, holds-one x m, elsewhere))
      (λ x. omega (arith, one.direct x)) one.made ei some made

  table-here : (p.mode ≡ marshal.Normal → ⊥) → owns_of t.objects p.object a ≡ true → OneMore t v a p.object true → IsCounted v (hold_more p.object false hs)
  table-here m w one =
      let r : books_of v ≡ books_of t = e ∙ keeps_table (owns_of t.objects) (books_of t) a n (shown p) is-shown refl m w in
      copied t v hs a p.object true c one r ei some made

  table-elsewhere : (p.mode ≡ marshal.Normal → ⊥) → owns_of t.objects p.object a ≡ false → OneMore t v a p.object false → IsCounted v (hold_more p.object true hs)
  table-elsewhere m w one =
      let r : books_of v ≡ changed (books_of t) (ToProxy a p.object p.iface 5) = e ∙ takes_table (owns_of t.objects) (books_of t) a n (shown p) is-shown refl m w in
      gained t v hs p.object true c (live-row t v (ToProxy a p.object p.iface 5) r)
      (λ x. let out : held_outside (books_of v) x ≡ held_outside (books_of t) x = ap (λ (b : Books). held_outside b x) r in omega (arith, out, one.all_elsewhere x))
      (λ x. omega (arith, one.direct x)) one.made ei some made

  pub unmarshalled : (normal owned : Bool) → (normal ≡ true → p.mode ≡ marshal.Normal) → (normal ≡ false → p.mode ≡ marshal.Normal → ⊥) → owns_of t.objects p.object a ≡ owned → OneMore t v a p.object owned
      → IsCounted v (cond normal (hold_less p.object owned hs) (hold_more p.object (not owned) hs))
  unmarshalled true true m o w one = normal-here (m refl) w one
  unmarshalled true false m o w one = normal-elsewhere (m refl) w one
  unmarshalled false true m o w one = table-here (o refl) w one
  unmarshalled false false m o w one = table-elsewhere (o refl) w one
