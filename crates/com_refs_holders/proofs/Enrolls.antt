-- An object more, which nobody holds yet, in the tables and in the books.
use mathlib.Core.Path.{fun_ext}
use Rattle.std.proofs.Common.{◌≡◌, ℕ, zero, suc, Bool, true, false, eqb, cond, ◌&&◌, ◌||◌, ◌+◌, ◌<◌, ◌≤◌, List, [], ◌∷◌, ◌++◌, length, refl, sym, ap, subst, ◌∙◌, arith, eqb-true}
use Rattle.std.proofs.lemmas.Bool.{false_from_ne_true}
use Rattle.std.proofs.lemmas.List.{map-append}
use Rattle.std.proofs.lemmas.Grind.{common_steps}
use Rattle.std.specs.Prelude.{map, Option, Some, None}
use Rattle.com_base.specs.declared.value.RefValue.{RefValue}
use Rattle.com_packets.specs.declared.Packet as P
use Rattle.com_proxy.specs.declared.ProxyRow.{ProxyRow}
use Rattle.com_proxy.specs.Rows.{public_of, local_of, IsFree}
use Rattle.com_slots.specs.Table.{held_in}
use Rattle.com_stub.specs.declared.StubRow.{StubRow}
use Rattle.com_stub.specs.declared.counters.CounterRow.{CounterRow}
use Rattle.com_stub.specs.StubRows.{is_connected, has_stub}
use Rattle.com_stub.specs.CounterRows.{has_counter, counter_of, no_counter, opened, opened_all, sum_of}
use Rattle.com_stub.proofs.Sums.{sum_push}
use Rattle.com_refs_books.specs.Changes.{Books}
use Rattle.com_refs_holders.specs.declared.ObjectRow.{ObjectRow}
use Rattle.com_refs_holders.specs.Tables.{Tables, books_of, packet_read, cookie_read, owns_of, owners_of, object_in, direct_in}
use Rattle.com_refs_holders.specs.Places.{locals_of, has_row, distinct}
use Rattle.com_refs_holders.specs.Stands.{IsEven, Known, IsHolders}
use Rattle.com_refs_holders.specs.Steps.{made_live, among}
use Rattle.com_refs_holders.proofs.Counters.{no_counter_count}
use Rattle.com_refs_holders.proofs.Rowed.{no_row_public, no_row_local}
use Rattle.com_refs_holders.proofs.Standing.{bound_step}
use Rattle.com_refs_holders.proofs.Same.{same_books}

-- ---- counters that are opened

has-push : (cs : List CounterRow) (o i x j : ℕ) → has_counter (cs ++ no_counter o i ∷ []) x j ≡ has_counter cs x j || (eqb x o && eqb j i)
has-push [] o i x j = grind (arith, common_steps)
has-push (c ∷ cs) o i x j = grind (arith, common_steps, has-push cs o i x j)

has-one : (cs : List CounterRow) (o i x j : ℕ) → has_counter (opened o i cs) x j ≡ has_counter cs x j || (eqb x o && eqb j i)
has-one cs o i x j = elim (has_counter cs o i) as (λ t. has_counter cs o i ≡ t → has_counter (cond t cs (cs ++ no_counter o i ∷ [])) x j ≡ has_counter cs x j || (eqb x o && eqb j i)) [
  | true ↦ λ e. elim (eqb x o && eqb j i) as (λ y. eqb x o && eqb j i ≡ y → has_counter cs x j ≡ has_counter cs x j || y) [
    | true ↦ λ y.
        let ex : x ≡ o = eqb-true x o (grind (arith, common_steps, y)) in
        let ej : j ≡ i = eqb-true j i (grind (arith, common_steps, y)) in
        let there : has_counter cs x j ≡ true = rw (ex, ej) e in
        grind (arith, common_steps, there)
    | false ↦ λ y. grind (arith, common_steps)
  ] refl
  | false ↦ λ e. has-push cs o i x j
] refl

pub has_opened : (set : List ℕ) (cs : List CounterRow) (o x j : ℕ) → has_counter (opened_all o set cs) x j ≡ has_counter cs x j || (eqb x o && among j set)
has_opened [] cs o x j = grind (arith, common_steps)
has_opened (i ∷ set) cs o x j = has_opened set (opened o i cs) o x j ∙ ap (λ b. b || (eqb x o && among j set)) (has-one cs o i x j) ∙ grind (arith, common_steps)

count-push : (cs : List CounterRow) (o i x j : ℕ) → (counter_of (cs ++ no_counter o i ∷ []) x j).count ≡ (counter_of cs x j).count
count-push [] o i x j = grind (arith, common_steps)
count-push (c ∷ cs) o i x j = grind (arith, common_steps, count-push cs o i x j)

count-one : (t : Bool) (cs : List CounterRow) (o i x j : ℕ) → (counter_of (cond t cs (cs ++ no_counter o i ∷ [])) x j).count ≡ (counter_of cs x j).count
count-one true cs o i x j = refl
count-one false cs o i x j = count-push cs o i x j

count-opened : (set : List ℕ) (cs : List CounterRow) (o x j : ℕ) → (counter_of (opened_all o set cs) x j).count ≡ (counter_of cs x j).count
count-opened [] cs o x j = refl
count-opened (i ∷ set) cs o x j = count-opened set (opened o i cs) o x j ∙ count-one (has_counter cs o i) cs o i x j

sum-one : (t : Bool) (cs : List CounterRow) (o i x : ℕ) → sum_of (cond t cs (cs ++ no_counter o i ∷ [])) x ≡ sum_of cs x
sum-one true cs o i x = refl
sum-one false cs o i x = sum_push cs x (no_counter o i) refl

sum-opened : (set : List ℕ) (cs : List CounterRow) (o x : ℕ) → sum_of (opened_all o set cs) x ≡ sum_of cs x
sum-opened [] cs o x = refl
sum-opened (i ∷ set) cs o x = sum-opened set (opened o i cs) o x ∙ sum-one (has_counter cs o i) cs o i x

-- ---- a stub and an object more

connected-push : (ss : List StubRow) (o x : ℕ) → has_stub ss o ≡ false → is_connected (ss ++ record { object = o; is_connected = true } ∷ []) x ≡ eqb x o || is_connected ss x
connected-push [] o x h = grind (arith, common_steps)
connected-push (r ∷ ss) o x h = grind (arith, common_steps, connected-push ss o x, h)

stub-push : (ss : List StubRow) (r : StubRow) (x : ℕ) → has_stub (ss ++ r ∷ []) x ≡ has_stub ss x || eqb r.object x
stub-push [] r x = grind (arith, common_steps)
stub-push (s ∷ ss) r x = grind (arith, common_steps, stub-push ss r x)

pub object_before : (rows : List ObjectRow) (r : ObjectRow) (x : ℕ) → x ≤ length rows → object_in (rows ++ r ∷ []) x ≡ object_in rows x
object_before rows r zero h = refl
object_before [] r (suc x) h = absurd (omega (arith, h))
object_before (q ∷ rows) r (suc zero) h = refl
object_before (q ∷ rows) r (suc (suc x)) h = let less : suc x ≤ length rows = omega (arith, h) in object_before rows r (suc x) less

pub direct_new : (rows : List ObjectRow) (r : ObjectRow) (x : ℕ) → r.direct ≡ 0 → (object_in (rows ++ r ∷ []) x).direct ≡ (object_in rows x).direct
direct_new rows r zero h = refl
direct_new [] r (suc zero) h = h
direct_new [] r (suc (suc x)) h = refl
direct_new (q ∷ rows) r (suc zero) h = refl
direct_new (q ∷ rows) r (suc (suc x)) h = direct_new rows r (suc x) h

-- ---- what is not of the object reads as before

packet-tail : (x : Option P.Packet) (ps : List (Option P.Packet)) (o : ℕ) → ((n : ℕ) (p : P.Packet) → held_in (x ∷ ps) n ≡ Some p → eqb p.object o ≡ false) → (n : ℕ) (p : P.Packet) → held_in ps n ≡ Some p → eqb p.object o ≡ false
packet-tail x ps o h zero p g = absurd (cc)
packet-tail x ps o h (suc n) p g = h (suc (suc n)) p g

packets-same : (live : ℕ → Bool) (o : ℕ) (ps : List (Option P.Packet)) → ((n : ℕ) (p : P.Packet) → held_in ps n ≡ Some p → eqb p.object o ≡ false) → map (packet_read (λ x. eqb x o || live x)) ps ≡ map (packet_read live) ps
packets-same live o [] h = refl
packets-same live o (None ∷ ps) h = ap (λ l. packet_read live None ∷ l) (packets-same live o ps (packet-tail None ps o h))
packets-same live o (Some p ∷ ps) h =
    let other : eqb p.object o ≡ false = h 1 p refl in
    let here : packet_read (λ x. eqb x o || live x) (Some p) ≡ packet_read live (Some p) = rw other refl in
    ap (λ r. r ∷ map (packet_read (λ x. eqb x o || live x)) ps) here ∙ ap (λ l. packet_read live (Some p) ∷ l) (packets-same live o ps (packet-tail (Some p) ps o h))

cookie-tail : (x : Option RefValue) (gs : List (Option RefValue)) (o : ℕ) → ((n : ℕ) (r : RefValue) → held_in (x ∷ gs) n ≡ Some r → eqb r.object o ≡ false) → (n : ℕ) (r : RefValue) → held_in gs n ≡ Some r → eqb r.object o ≡ false
cookie-tail x gs o h zero p g = absurd (cc)
cookie-tail x gs o h (suc n) p g = h (suc (suc n)) p g

cookies-same : (live : ℕ → Bool) (o : ℕ) (gs : List (Option RefValue)) → ((n : ℕ) (r : RefValue) → held_in gs n ≡ Some r → eqb r.object o ≡ false) → map (cookie_read (λ x. eqb x o || live x)) gs ≡ map (cookie_read live) gs
cookies-same live o [] h = refl
cookies-same live o (None ∷ gs) h = ap (λ l. cookie_read live None ∷ l) (cookies-same live o gs (cookie-tail None gs o h))
cookies-same live o (Some r ∷ gs) h =
    let other : eqb r.object o ≡ false = h 1 r refl in
    let here : cookie_read (λ x. eqb x o || live x) (Some r) ≡ cookie_read live (Some r) = rw other refl in
    ap (λ q. q ∷ map (cookie_read (λ x. eqb x o || live x)) gs) here ∙ ap (λ l. cookie_read live (Some r) ∷ l) (cookies-same live o gs (cookie-tail (Some r) gs o h))

made-read : (e l : Bool) (m n : ℕ) → m ≡ n → (e ≡ true → n ≡ 0) → cond (e || l) m 0 ≡ cond l n 0
made-read true true m n s h = s
made-read true false m n s h = s ∙ h refl
made-read false true m n s h = s
made-read false false m n s h = refl

pub record Enrolled (t u : Tables) (o w : ℕ) (agile : Bool) (set : List ℕ) : Type 0 where
  pub number : o ≡ length t.objects + 1
  pub objects : u.objects ≡ t.objects ++ record { owner = w; agile = agile; direct = 0 } ∷ []
  pub stubs : u.stubs ≡ t.stubs ++ record { object = o; is_connected = true } ∷ []
  pub counters : u.counters ≡ opened_all o set t.counters
  pub proxies : u.proxies ≡ t.proxies
  pub packets : u.packets ≡ t.packets
  pub cookies : u.cookies ≡ t.cookies
  pub issued : u.issued ≡ t.issued + 1

-- nothing is known of an object that was not made
module _ (t : Tables) (o : ℕ) (s : Known t) (new : o ≡ length t.objects + 1) where
  pub no_stub_yet : has_stub t.stubs o ≡ false
  no_stub_yet = false_from_ne_true _ (λ h. omega (arith, s.stubs o h, new))

  pub no_counter_yet : (j : ℕ) → has_counter t.counters o j ≡ false
  no_counter_yet j = false_from_ne_true _ (λ h. omega (arith, (s.counters o j h).1, new))

  pub no_row_yet : (c j : ℕ) → has_row t.proxies c o j ≡ false
  no_row_yet c j = false_from_ne_true _ (λ h. omega (arith, (s.counters o j (s.proxies c o j h)).1, new))

  other-object : (x j : ℕ) → has_counter t.counters x j ≡ true → eqb x o ≡ false
  other-object x j h = false_from_ne_true _ (λ e. omega (arith, (s.counters x j h).1, new, eqb-true x o e))

module _ (t u : Tables) (o w : ℕ) (agile : Bool) (set : List ℕ) (k : Enrolled t u o w agile set) (s : IsHolders t) where
  live-now : (x : ℕ) → is_connected u.stubs x ≡ eqb x o || is_connected t.stubs x
  live-now x = ap (λ ss. is_connected ss x) k.stubs ∙ connected-push t.stubs o x (no_stub_yet t o s.known k.number)

  live-is : ◌≡◌ {A = ℕ → Bool} (is_connected u.stubs) (λ x. eqb x o || is_connected t.stubs x)
  live-is = fun_ext live-now

  count-same : (x j : ℕ) → (counter_of u.counters x j).count ≡ (counter_of t.counters x j).count
  count-same x j = ap (λ cs. (counter_of cs x j).count) k.counters ∙ count-opened set t.counters o x j

  none-counted : (x j : ℕ) → eqb x o ≡ true → (counter_of t.counters x j).count ≡ 0
  none-counted x j e = let same : x ≡ o = eqb-true x o e in rw same (no_counter_count t.counters o j (no_counter_yet t o s.known k.number j))

  none-public : (c x j : ℕ) → eqb x o ≡ true → public_of t.proxies c x j ≡ 0
  none-public c x j e = let same : x ≡ o = eqb-true x o e in rw same (no_row_public t.proxies c o j (no_row_yet t o s.known k.number c j))

  pub enrolled_books : books_of u ≡ made_live o (books_of t)
  unfolding books_of
  enrolled_books = same_books _ (made_live o (books_of t)) (record {
    stub = λ x j. ap (λ (b : Bool). cond b (counter_of u.counters x j).count 0) (live-now x) ∙ made-read (eqb x o) (is_connected t.stubs x) _ _ (count-same x j) (none-counted x j);
    proxy = λ c x j. ap (λ (b : Bool). cond b (public_of u.proxies c x j) 0) (live-now x) ∙ made-read (eqb x o) (is_connected t.stubs x) _ _ (ap (λ rs. public_of rs c x j) k.proxies) (none-public c x j);
    packets = ap (λ (l : ℕ → Bool). map (packet_read l) u.packets) live-is ∙ ap (λ ps. map (packet_read (λ x. eqb x o || is_connected t.stubs x)) ps) k.packets
        ∙ packets-same (is_connected t.stubs) o t.packets (λ n p h. other-object t o s.known k.number p.object p.iface (s.known.packets n p h));
    cookies = ap (λ (l : ℕ → Bool). map (cookie_read l) u.cookies) live-is ∙ ap (λ gs. map (cookie_read (λ x. eqb x o || is_connected t.stubs x)) gs) k.cookies
        ∙ cookies-same (is_connected t.stubs) o t.cookies (λ n r h. other-object t o s.known k.number r.object r.iface (s.known.cookies n r h));
    live = live-now;
    arguments = refl;
    result = refl;
  })

  pub enrolled_offers : (x j : ℕ) → has_counter u.counters x j ≡ has_counter t.counters x j || (eqb x o && among j set)
  enrolled_offers x j = ap (λ cs. has_counter cs x j) k.counters ∙ has_opened set t.counters o x j

  len : length u.objects ≡ length t.objects + 1
  len = ap (λ os. length os) k.objects ∙ grind (arith, common_steps)

  still-has : (x j : ℕ) → has_counter t.counters x j ≡ true → has_counter u.counters x j ≡ true
  still-has x j h = enrolled_offers x j ∙ ap (λ b. b || (eqb x o && among j set)) h

  stub-made : (x : ℕ) → has_stub u.stubs x ≡ true → x ≤ length u.objects
  stub-made x h =
      let or : has_stub t.stubs x || eqb o x ≡ true = sym (ap (λ ss. has_stub ss x) k.stubs ∙ stub-push t.stubs (record { object = o; is_connected = true }) x) ∙ h in
      elim (has_stub t.stubs x) as (λ y. has_stub t.stubs x ≡ y → y || eqb o x ≡ true → x ≤ length u.objects) [
        | true ↦ λ y g. omega (arith, s.known.stubs x y, len)
        | false ↦ λ y g. let same : o ≡ x = eqb-true o x g in omega (arith, same, k.number, len)
      ] refl or

  counter-made : (x j : ℕ) → has_counter u.counters x j ≡ true → (0 < x) × (x ≤ length u.objects)
  counter-made x j h =
      let or : has_counter t.counters x j || (eqb x o && among j set) ≡ true = sym (enrolled_offers x j) ∙ h in
      elim (has_counter t.counters x j) as (λ y. has_counter t.counters x j ≡ y → y || (eqb x o && among j set) ≡ true → (0 < x) × (x ≤ length u.objects)) [
        | true ↦ λ y g. ((s.known.counters x j y).0, omega (arith, (s.known.counters x j y).1, len))
        | false ↦ λ y g. let same : x ≡ o = eqb-true x o (grind (arith, common_steps, g)) in (omega (arith, same, k.number), omega (arith, same, k.number, len))
      ] refl or

  pub enrolled_owns : (x c : ℕ) → x ≤ length t.objects → owns_of u.objects x c ≡ owns_of t.objects x c
  unfolding owns_of
  enrolled_owns x c h = let e : object_in u.objects x ≡ object_in t.objects x = ap (λ os. object_in os x) k.objects ∙ object_before t.objects _ x h in rw e refl

  pub enrolled_direct : (x : ℕ) → direct_in u x ≡ direct_in t x
  enrolled_direct x = ap (λ os. (object_in os x).direct) k.objects ∙ direct_new t.objects _ x refl

  owned-none : (c x j : ℕ) → owns_of u.objects x c ≡ true → local_of t.proxies c x j ≡ 0
  owned-none c x j h = elim (has_row t.proxies c x j) as (λ y. has_row t.proxies c x j ≡ y → local_of t.proxies c x j ≡ 0) [
    | true ↦ λ y. s.owned c x j (sym (enrolled_owns x c (s.known.counters x j (s.known.proxies c x j y)).1) ∙ h)
    | false ↦ λ y. no_row_local t.proxies c x j y
  ] refl

  pub enrolled_stands : IsHolders u
  enrolled_stands = record {
    even = subst IsEven (sym enrolled_books) (record { apartments = s.even.apartments; even = record { equal = s.even.even.equal; past = s.even.even.past } });
    placed = λ c x j f. ap (λ (b : Books). b.proxy c x j) enrolled_books ∙ s.placed c x j (subst (λ (rs : List ProxyRow). IsFree rs c x) k.proxies f);
    owned = λ c x j h. ap (λ rs. local_of rs c x j) k.proxies ∙ owned-none c x j h;
    known = record {
      stubs = stub-made;
      counters = counter-made;
      proxies = λ c x j h. still-has x j (s.known.proxies c x j (ap (λ rs. has_row rs c x j) (sym k.proxies) ∙ h));
      packets = λ n p h. still-has p.object p.iface (s.known.packets n p (ap (λ ps. held_in ps n) (sym k.packets) ∙ h));
      cookies = λ n r h. still-has r.object r.iface (s.known.cookies n r (ap (λ gs. held_in gs n) (sym k.cookies) ∙ h));
    };
    bounded = bound_step t u 1 s.bounded (record {
      issued = k.issued;
      sums = λ x. let e : sum_of u.counters x ≡ sum_of t.counters x = ap (λ cs. sum_of cs x) k.counters ∙ sum-opened set t.counters o x in omega (arith, e);
      locals = λ x. let e : locals_of x u.proxies ≡ locals_of x t.proxies = ap (λ rs. locals_of x rs) k.proxies in omega (arith, e);
      direct = λ x. omega (arith, enrolled_direct x);
      packets = let e : length u.packets ≡ length t.packets = ap (λ ps. length ps) k.packets in omega (arith, e);
      cookies = let e : length u.cookies ≡ length t.cookies = ap (λ gs. length gs) k.cookies in omega (arith, e);
      objects = omega (arith, len);
    });
    apart = ap (λ rs. distinct rs) k.proxies ∙ s.apart;
  }

  pub enrolled_owners : owners_of u.objects ≡ owners_of t.objects ++ w ∷ []
  enrolled_owners = ap (λ os. owners_of os) k.objects ∙ map-append (λ (r : ObjectRow). r.owner) t.objects (record { owner = w; agile = agile; direct = 0 } ∷ [])

  pub enrolled_live : is_connected u.stubs o ≡ true
  enrolled_live = live-now o ∙ grind (arith, common_steps)

  pub enrolled_has : (i : ℕ) → among i set ≡ true → has_counter u.counters o i ≡ true
  enrolled_has i h = enrolled_offers o i ∙ grind (arith, common_steps, h)

  pub enrolled_made : (0 < o) × (o ≤ length u.objects)
  enrolled_made = (omega (arith, k.number), omega (arith, k.number, len))
