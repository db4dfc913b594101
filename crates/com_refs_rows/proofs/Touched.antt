-- What the rows of an entry leave of the holders of each object, and what is written down where one loses its
-- last holder.
use Rattle.std.proofs.Common.{◌≡◌, refl, sym, ap, ◌∙◌, arith, ℕ, zero, suc, Bool, true, false, cond, not, eqb, ◌&&◌, ◌||◌, ◌+◌, ◌<◌, ◌≤◌, List, [], ◌∷◌, ◌++◌}
use Rattle.std.proofs.lemmas.Grind.{common_steps}
use Rattle.std.specs.Prelude.{Option, Some, None, nat_le, slice_index_or, slice_set, sum_by, ◌/◌}
use Rattle.com_base.specs.declared.value.MarshalMode.{MarshalMode}
use Rattle.com_base.specs.declared.value.MarshalMode.TheVariants as marshal
use Rattle.com_base.specs.declared.value.RefValue.{RefValue}
use Rattle.com_refs_books.specs.declared.keeps.Cookie.{Cookie}
use Rattle.com_refs_books.specs.declared.keeps.Packet.{Packet}
use Rattle.com_refs_books.specs.Changes.{Books, Change, Asks, Drops, Marshals, Registers, Return, Revokes, Same, Split, Takes, ToCookie, ToPacket, ToProxy, Unmarshals, Withdraw, change, changed, cookie, cookie_holds, cut, held_outside, is_weak, marshal_change, new_packet, no_cookie, packet, packet_holds, unmarshal_change}
use Rattle.com_refs_books.specs.Counting.{sum_below, count_if}
use Rattle.com_refs_books.specs.Ends.{stays, ends}
use Rattle.com_refs_holders.specs.declared.ObjectRow.{ObjectRow}
use Rattle.com_refs_holders.specs.Places.{OneMore, SamePlaces, locals_of}
use Rattle.com_refs_holders.specs.Tables.{Tables, books_of, cookie_read, direct_in, object_in, outstanding_in, owns_of}
use Rattle.com_model.specs.Lists.{is_member, is_number}
use Rattle.com_packets.specs.declared.Packet as P
use Rattle.com_proxy.specs.declared.ProxyRow.{ProxyRow}
use Rattle.com_refs.specs.Counts.{holders_of, outside_of, unheld}
use Rattle.com_refs.specs.Totals.{Totals}
use Rattle.com_refs.specs.Found.{shown_packet}
use Rattle.com_refs.proofs.Ends.{holds-kept, holds-same}
use Rattle.com_refs.proofs.Finding.{cookie_is, packet_is}
use Rattle.com_refs.proofs.Outside.{outside-end, outside-join}
use Rattle.com_refs.proofs.Steps.{drop_row, live-row, revoke_row}
use Rattle.com_slots.specs.Table.{held_in}
use Rattle.com_stub.specs.StubRows.{is_connected}
use Rattle.com_refs_rows.specs.Books.{Rowed}
use Rattle.com_refs_rows.specs.Moving.{Touches}
use Rattle.com_refs_rows.proofs.Unheld.{touches-one, unlike}

-- ---- an object of which the entry's end changes nothing

module _ (n : ℕ) (before later : ℕ → ℕ → ℕ) (t u : Tables) (b : Books) (x : ℕ) (was : Totals n before t) (now : Totals n later u)
    (rests : ends n before (books_of t) ≡ books_of t) (books : books_of u ≡ ends n later b)
    (direct : direct_in u x ≡ direct_in t x) (locals : locals_of x u.proxies ≡ locals_of x t.proxies)
    (live : b.live x ≡ (books_of t).live x) (outside : held_outside b x ≡ held_outside (books_of t) x) where
  same-total : sum_below n (λ c. later c x) ≡ sum_below n (λ c. before c x)
  same-total = omega (arith, was.total x, now.total x, direct, locals)

  stays-as : stays n later b x ≡ (books_of t).live x
  unfolding ends
  stays-as =
      let same : stays n later b x ≡ stays n before (books_of t) x = λ i. live i && not (eqb (same-total i + outside i) 0) in
      same ∙ ap (λ (c : Books). c.live x) rests

  live-still : (books_of u).live x ≡ (books_of t).live x
  unfolding ends
  live-still = ap (λ (c : Books). c.live x) books ∙ stays-as

  outside-still : (books_of t).live x ≡ true → held_outside (books_of u) x ≡ held_outside (books_of t) x
  unfolding ends
  outside-still e =
      let held : held_outside (ends n later b) x ≡ held_outside b x =
      omega (arith, holds-kept (stays n later b) x (stays-as ∙ e) b.packets, holds-same (stays n later b) x b.cookies) in
      ap (λ (c : Books). held_outside c x) books ∙ held ∙ outside

  still-held : holders_of u x ≡ holders_of t x
  still-held =
      let out : (books_of t).live x ≡ true → held_outside (books_of u) x ≡ held_outside (books_of t) x = outside-still in
      ap (λ (v : Bool). cond v (direct_in u x + outside_of u x) (direct_in u x)) live-still
      ∙ elim ((books_of t).live x) as (λ v. (books_of t).live x ≡ v → cond v (direct_in u x + outside_of u x) (direct_in u x) ≡ cond v (direct_in t x + outside_of t x) (direct_in t x)) [
        | true ↦ λ e. omega (arith, direct, locals, out e)
        | false ↦ λ e. direct
      ] refl

-- ---- a packet or a cookie that ends

number-flag : (x o : ℕ) (b : Bool) → is_number x (cond b (Some o) None) ≡ (b && eqb x o)
number-flag x o true = refl
number-flag x o false = refl

touches-lost : (t u : Tables) (o : ℕ) (lost : Option ℕ) (xs ys : List ℕ) → ((x : ℕ) → (x ≡ o → ⊥) → holders_of u x ≡ holders_of t x) → lost ≡ unheld u o
    → ((x : ℕ) → is_member x ys ≡ (is_member x xs || is_number x lost)) → Touches t u xs ys
touches-lost t u o lost xs ys others last members =
    touches-one t u o (eqb (holders_of u o) 0) xs ys others (λ e. ap (λ (k : ℕ). eqb k 0) e)
    (λ x. members x ∙ ap (λ (b : Bool). is_member x xs || b) (ap (λ (y : Option ℕ). is_number x y) last ∙ number-flag x o (eqb (holders_of u o) 0)))

none-of : (b : Bool) → count_if (b && false) ≡ 0
none-of true = refl
none-of false = refl

holds-none : (p : P.Packet) (x : ℕ) → (x ≡ p.object → ⊥) → packet_holds x (shown_packet (Some p)) ≡ 0
holds-none p x ne = ap (λ (b : Bool). count_if (not (is_weak p.mode) && b)) (unlike p.object x (λ e. ne (sym e))) ∙ none-of (not (is_weak p.mode))

pub drop-touches : (n : ℕ) (before later : ℕ → ℕ → ℕ) (t u : Tables) (number : ℕ) (p : P.Packet) (lost : Option ℕ) (xs ys : List ℕ)
    → Totals n before t → Totals n later u → ends n before (books_of t) ≡ books_of t → SamePlaces t u
    → outstanding_in (is_connected t.stubs) t.packets number ≡ Some p
    → books_of u ≡ ends n later (changed (books_of t) (change (owns_of t.objects) (books_of t) (Drops number)))
    → lost ≡ unheld u p.object → ((x : ℕ) → is_member x ys ≡ (is_member x xs || is_number x lost)) → Touches t u xs ys
drop-touches n before later t u number p lost xs ys was now rests same found books last members =
    let ended : books_of u ≡ ends n later (changed (books_of t) (Return number)) = books ∙ ap (λ (b : Books). ends n later b) (drop_row t number p found) in
    let row : packet (books_of t) number ≡ shown_packet (Some p) = sym (packet_is t number) ∙ ap (λ (y : Option P.Packet). shown_packet y) found in
    let out : (packet (books_of t) number).outstanding ≡ true = ap (λ (q : Packet). q.outstanding) row in
    let outside : (x : ℕ) → (x ≡ p.object → ⊥) → held_outside (changed (books_of t) (Return number)) x ≡ held_outside (books_of t) x =
    λ x ne. (let none : packet_holds x (packet (books_of t) number) ≡ 0 = ap (λ (q : Packet). packet_holds x q) row ∙ holds-none p x ne in omega (arith, none, outside-end (books_of t) number x out)) in
    touches-lost t u p.object lost xs ys
    (λ x ne. still-held n before later t u (changed (books_of t) (Return number)) x was now rests ended (same.direct x) (same.all_elsewhere x) refl (outside x ne))
    last members

cookie-ends : (gs : List Cookie) (k x : ℕ) → (slice_index_or gs k no_cookie).is_revoked ≡ false → sum_by (cookie_holds x) (slice_set gs k no_cookie) + count_if (eqb (slice_index_or gs k no_cookie).object x) ≡ sum_by (cookie_holds x) gs
cookie-ends [] k x h = absurd (cc)
cookie-ends (g ∷ gs) zero x h = grind (arith, common_steps, h)
cookie-ends (g ∷ gs) (suc k) x h = grind (arith, common_steps, cookie-ends gs k x h)

cookie-less : (b : Books) (n x : ℕ) → (cookie b n).is_revoked ≡ false → held_outside (changed b (Withdraw n)) x + count_if (eqb (cookie b n).object x) ≡ held_outside b x
cookie-less b zero x h = absurd (cc)
cookie-less b (suc k) x h = omega (arith, cookie-ends b.cookies k x h)

pub revoke-touches : (n : ℕ) (before later : ℕ → ℕ → ℕ) (t u : Tables) (number : ℕ) (held : RefValue) (lost : Option ℕ) (xs ys : List ℕ)
    → Totals n before t → Totals n later u → ends n before (books_of t) ≡ books_of t → SamePlaces t u
    → held_in t.cookies number ≡ Some held
    → books_of u ≡ ends n later (changed (books_of t) (change (owns_of t.objects) (books_of t) (Revokes number)))
    → lost ≡ unheld u held.object → ((x : ℕ) → is_member x ys ≡ (is_member x xs || is_number x lost)) → Touches t u xs ys
revoke-touches n before later t u number held lost xs ys was now rests same found books last members =
    let ended : books_of u ≡ ends n later (changed (books_of t) (Withdraw number)) = books ∙ ap (λ (b : Books). ends n later b) (revoke_row t number) in
    let there : (cookie (books_of t) number).is_revoked ≡ false = ap (λ (g : Cookie). g.is_revoked) (sym (cookie_is t number)) ∙ ap (λ (y : Option RefValue). (cookie_read (is_connected t.stubs) y).is_revoked) found in
    let object : (cookie (books_of t) number).object ≡ held.object = ap (λ (g : Cookie). g.object) (sym (cookie_is t number)) ∙ ap (λ (y : Option RefValue). (cookie_read (is_connected t.stubs) y).object) found in
    let outside : (x : ℕ) → (x ≡ held.object → ⊥) → held_outside (changed (books_of t) (Withdraw number)) x ≡ held_outside (books_of t) x =
    λ x ne. (let none : count_if (eqb (cookie (books_of t) number).object x) ≡ 0 = ap (λ (o : ℕ). count_if (eqb o x)) object ∙ ap (λ (b : Bool). count_if b) (unlike held.object x (λ e. ne (sym e))) in omega (arith, none, cookie-less (books_of t) number x there)) in
    touches-lost t u held.object lost xs ys
    (λ x ne. still-held n before later t u (changed (books_of t) (Withdraw number)) x was now rests ended (same.direct x) (same.all_elsewhere x) refl (outside x ne))
    last members

-- ---- what is no longer connected

module _ (t u : Tables) (gone : ℕ → Bool) (books : books_of u ≡ cut (λ x. (books_of t).live x && not (gone x)) (books_of t)) (objects : u.objects ≡ t.objects) (proxies : u.proxies ≡ t.proxies) where
  cut-live : (x : ℕ) → (books_of u).live x ≡ ((books_of t).live x && not (gone x))
  cut-live x = ap (λ (b : Books). b.live x) books

  cut-direct : (x : ℕ) → direct_in u x ≡ direct_in t x
  cut-direct x = ap (λ (os : List ObjectRow). (object_in os x).direct) objects

  cut-outside : (x : ℕ) → ((books_of t).live x && not (gone x)) ≡ true → outside_of u x ≡ outside_of t x
  cut-outside x e =
      let held : held_outside (books_of u) x ≡ held_outside (cut (λ y. (books_of t).live y && not (gone y)) (books_of t)) x = ap (λ (b : Books). held_outside b x) books in
      let locals : locals_of x u.proxies ≡ locals_of x t.proxies = ap (λ (rs : List ProxyRow). locals_of x rs) proxies in
      omega (arith, held, locals, holds-kept (λ y. (books_of t).live y && not (gone y)) x e (books_of t).packets, holds-same (λ y. (books_of t).live y && not (gone y)) x (books_of t).cookies)

  -- Where it is not gone, or was not connected.
  cut-same : (x : ℕ) (l g : Bool) → (books_of t).live x ≡ l → gone x ≡ g → (l && not g) ≡ l → holders_of u x ≡ holders_of t x
  cut-same x true true p q k = absurd (cc)
  cut-same x true false p q k =
      let now : ((books_of t).live x && not (gone x)) ≡ true = λ i. p i && not (q i) in
      let direct : direct_in u x ≡ direct_in t x = cut-direct x in
      let outside : outside_of u x ≡ outside_of t x = cut-outside x now in
      ap (λ (v : Bool). cond v (direct_in u x + outside_of u x) (direct_in u x)) (cut-live x ∙ now) ∙ (λ i. direct i + outside i) ∙ sym (ap (λ (v : Bool). cond v (direct_in t x + outside_of t x) (direct_in t x)) p)
  cut-same x false g p q k =
      let now : ((books_of t).live x && not (gone x)) ≡ false = λ i. p i && not (q i) in
      ap (λ (v : Bool). cond v (direct_in u x + outside_of u x) (direct_in u x)) (cut-live x ∙ now) ∙ cut-direct x ∙ sym (ap (λ (v : Bool). cond v (direct_in t x + outside_of t x) (direct_in t x)) p)

  cut-gone : (x : ℕ) → gone x ≡ true → (books_of t).live x ≡ true → holders_of u x ≡ direct_in t x
  cut-gone x g l =
      let now : ((books_of t).live x && not (gone x)) ≡ false = λ i. l i && not (g i) in
      ap (λ (v : Bool). cond v (direct_in u x + outside_of u x) (direct_in u x)) (cut-live x ∙ now) ∙ cut-direct x

  pub cut-touches : (xs ys : List ℕ) → ((x : ℕ) → is_member x xs ≡ true → is_member x ys ≡ true)
      → ((x : ℕ) → gone x ≡ true → (books_of t).live x ≡ true → direct_in t x ≡ 0 → is_member x ys ≡ true) → Touches t u xs ys
  cut-touches xs ys kept fell = record {
    kept = kept;
    all = λ x some none. by-test x ((books_of t).live x) (gone x) refl refl some none;
  } where
    by-test : (x : ℕ) (l g : Bool) → (books_of t).live x ≡ l → gone x ≡ g → 0 < holders_of t x → holders_of u x ≡ 0 → is_member x ys ≡ true
    by-test x true true p q some none = fell x q p (sym (cut-gone x q p) ∙ none)
    by-test x true false p q some none = absurd (omega (arith, some, none, cut-same x true false p q refl))
    by-test x false g p q some none = absurd (omega (arith, some, none, cut-same x false g p q refl))

-- ---- rows that take no holder away

pub more-by : (t u : Tables) (x : ℕ) → (books_of u).live x ≡ (books_of t).live x → direct_in t x ≤ direct_in u x → direct_in t x + outside_of t x ≤ direct_in u x + outside_of u x → holders_of t x ≤ holders_of u x
more-by t u x live direct all = above ((books_of t).live x) ((books_of u).live x) (sym live) _ _ _ _ direct all
  where
    clash : false ≡ true → ⊥
    clash e = cc

    above : (b c : Bool) → b ≡ c → (p q r s : ℕ) → q ≤ s → p ≤ r → cond b p q ≤ cond c r s
    above true true e p q r s l m = m
    above true false e p q r s l m = absurd (clash (sym e))
    above false true e p q r s l m = absurd (clash e)
    above false false e p q r s l m = l

none-more : (b : Books) (c : Bool) (a o i x : ℕ) → held_outside (changed b (cond c (ToProxy a o i 5) Same)) x ≡ held_outside b x
none-more b true a o i x = refl
none-more b false a o i x = refl

pub asked-more : (t u : Tables) (a o i : ℕ) (owned : Bool) → Rowed t u (Asks a o i) → OneMore t u a o owned → (x : ℕ) → holders_of t x ≤ holders_of u x
asked-more t u a o i owned row more x =
    let outside : held_outside (books_of u) x ≡ held_outside (books_of t) x = ap (λ (b : Books). held_outside b x) row ∙ none-more (books_of t) _ a o i x in
    more-by t u x (live-row t u _ row x) (omega (arith, more.direct x)) (omega (arith, more.direct x, more.all_elsewhere x, outside))

pub took-more : (t u : Tables) (a o i : ℕ) (owned : Bool) → Rowed t u (Takes a o i) → OneMore t u a o owned → (x : ℕ) → holders_of t x ≤ holders_of u x
took-more t u a o i owned row more x =
    let outside : held_outside (books_of u) x ≡ held_outside (books_of t) x = ap (λ (b : Books). held_outside b x) row ∙ none-more (books_of t) _ a o i x in
    more-by t u x (live-row t u _ row x) (omega (arith, more.direct x)) (omega (arith, more.direct x, more.all_elsewhere x, outside))

pushed : (ps : List Packet) (q : Packet) (x : ℕ) → sum_by (packet_holds x) ps ≤ sum_by (packet_holds x) (ps ++ q ∷ [])
pushed ps q x = grind (arith, common_steps)

packets-more : (b : Books) (m : MarshalMode) (owned : Bool) (a o i x : ℕ) → held_outside b x ≤ held_outside (changed b (marshal_change m owned (b.proxy a o i) a o i)) x
packets-more b marshal.Normal owned a o i x = by-test owned (nat_le 2 (b.proxy a o i))
  where
    by-test : (w v : Bool) → held_outside b x ≤ held_outside (changed b (cond w (ToPacket marshal.Normal o i 5) (cond v (Split a o i (b.proxy a o i / 2)) (ToPacket marshal.Normal o i 5)))) x
    by-test true v = omega (arith, pushed b.packets (new_packet marshal.Normal o i 5) x)
    by-test false true = omega (arith, pushed b.packets (new_packet marshal.Normal o i (b.proxy a o i / 2)) x)
    by-test false false = omega (arith, pushed b.packets (new_packet marshal.Normal o i 5) x)
packets-more b marshal.Strong owned a o i x = omega (arith, pushed b.packets (new_packet marshal.Strong o i 1) x)
packets-more b marshal.Weak owned a o i x = omega (arith, pushed b.packets (new_packet marshal.Weak o i 0) x)

pub marshalled-more : (t u : Tables) (a o i : ℕ) (m : MarshalMode) → Rowed t u (Marshals a m o i) → SamePlaces t u → (x : ℕ) → holders_of t x ≤ holders_of u x
marshalled-more t u a o i m row same x =
    let outside : held_outside (books_of t) x ≤ held_outside (changed (books_of t) (change (owns_of t.objects) (books_of t) (Marshals a m o i))) x = by-live ((books_of t).live o) in
    let now : held_outside (books_of u) x ≡ held_outside (changed (books_of t) (change (owns_of t.objects) (books_of t) (Marshals a m o i))) x = ap (λ (b : Books). held_outside b x) row in
    more-by t u x (live-row t u _ row x) (omega (arith, same.direct x)) (omega (arith, same.direct x, same.all_elsewhere x, outside, now))
  where
    by-live : (v : Bool) → held_outside (books_of t) x ≤ held_outside (changed (books_of t) (cond v (marshal_change m (owns_of t.objects o a) ((books_of t).proxy a o i) a o i) Same)) x
    by-live true = packets-more (books_of t) m (owns_of t.objects o a) a o i x
    by-live false = omega arith

pushed-cookie : (gs : List Cookie) (g : Cookie) (x : ℕ) → sum_by (cookie_holds x) gs ≤ sum_by (cookie_holds x) (gs ++ g ∷ [])
pushed-cookie gs g x = grind (arith, common_steps)

pub registered-more : (t u : Tables) (o i : ℕ) → Rowed t u (Registers o i) → SamePlaces t u → (x : ℕ) → holders_of t x ≤ holders_of u x
registered-more t u o i row same x =
    let outside : held_outside (books_of t) x ≤ held_outside (changed (books_of t) (change (owns_of t.objects) (books_of t) (Registers o i))) x = by-live ((books_of t).live o) in
    let now : held_outside (books_of u) x ≡ held_outside (changed (books_of t) (change (owns_of t.objects) (books_of t) (Registers o i))) x = ap (λ (b : Books). held_outside b x) row in
    more-by t u x (live-row t u _ row x) (omega (arith, same.direct x)) (omega (arith, same.direct x, same.all_elsewhere x, outside, now))
  where
    by-live : (v : Bool) → held_outside (books_of t) x ≤ held_outside (changed (books_of t) (cond v (ToCookie o i 1) Same)) x
    by-live true = omega (arith, pushed-cookie (books_of t).cookies (record { is_revoked = false; object = o; iface = i; refs = 1 }) x)
    by-live false = omega arith

-- ---- a packet that is read

turned : (a b : ℕ) → eqb a b ≡ eqb b a
turned a b = grind (arith, common_steps)

most-of : (w e : Bool) → count_if (w && e) ≤ count_if e
most-of true e = omega arith
most-of false true = omega arith
most-of false false = omega arith

both-of : (w e : Bool) → count_if (w && e) + count_if (not w && e) ≡ count_if e
both-of true true = refl
both-of true false = refl
both-of false true = refl
both-of false false = refl

holds-most : (p : P.Packet) (x : ℕ) → packet_holds x (shown_packet (Some p)) ≤ count_if (eqb x p.object)
holds-most p x =
    let same : packet_holds x (shown_packet (Some p)) ≡ count_if (not (is_weak p.mode) && eqb x p.object) = λ i. count_if (not (is_weak p.mode) && turned p.object x i) in
    omega (arith, same, most-of (not (is_weak p.mode)) (eqb x p.object))

-- What is read holds no less, with the place that it brings.
read-more : (b : Books) (number a : ℕ) (p : P.Packet) (m : MarshalMode) (owned : Bool) (x : ℕ) → packet b number ≡ shown_packet (Some p)
    → held_outside b x ≤ held_outside (changed b (unmarshal_change m owned a number p.object p.iface)) x + count_if (eqb x p.object)
read-more b number a p marshal.Normal true x row =
    let out : (packet b number).outstanding ≡ true = ap (λ (q : Packet). q.outstanding) row in
    let held : packet_holds x (packet b number) ≡ packet_holds x (shown_packet (Some p)) = ap (λ (q : Packet). packet_holds x q) row in
    omega (arith, held, holds-most p x, outside-end b number x out)
read-more b number a p marshal.Normal false x row =
    let out : (packet b number).outstanding ≡ true = ap (λ (q : Packet). q.outstanding) row in
    let held : packet_holds x (packet b number) ≡ packet_holds x (shown_packet (Some p)) = ap (λ (q : Packet). packet_holds x q) row in
    omega (arith, held, holds-most p x, outside-join b a number x out)
read-more b number a p marshal.Strong true x row = omega arith
read-more b number a p marshal.Strong false x row = omega arith
read-more b number a p marshal.Weak true x row = omega arith
read-more b number a p marshal.Weak false x row = omega arith

pub unmarshalled-more : (t u : Tables) (a number : ℕ) (p : P.Packet) → outstanding_in (is_connected t.stubs) t.packets number ≡ Some p → Rowed t u (Unmarshals a number)
    → OneMore t u a p.object (owns_of t.objects p.object a) → (x : ℕ) → holders_of t x ≤ holders_of u x
unmarshalled-more t u a number p found row more x =
    let is : packet (books_of t) number ≡ shown_packet (Some p) = sym (packet_is t number) ∙ ap (λ (y : Option P.Packet). shown_packet y) found in
    let same : change (owns_of t.objects) (books_of t) (Unmarshals a number) ≡ unmarshal_change p.mode (owns_of t.objects p.object a) a number p.object p.iface =
    ap (λ (q : Packet). cond q.outstanding (unmarshal_change q.mode (owns_of t.objects q.object a) a number q.object q.iface) Same) is in
    let books : books_of u ≡ changed (books_of t) (unmarshal_change p.mode (owns_of t.objects p.object a) a number p.object p.iface) = row ∙ ap (λ (c : Change). changed (books_of t) c) same in
    let outside : held_outside (books_of t) x ≤ held_outside (books_of u) x + count_if (eqb x p.object) =
    omega (arith, ap (λ (b : Books). held_outside b x) books, read-more (books_of t) number a p p.mode (owns_of t.objects p.object a) x is) in
    more-by t u x (live-row t u _ row x) (omega (arith, more.direct x)) (omega (arith, more.direct x, more.all_elsewhere x, outside, both-of (owns_of t.objects p.object a) (eqb x p.object)))
