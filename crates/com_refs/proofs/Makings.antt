-- An object that is made: nothing held it before, and one place holds it then.
use Rattle.std.proofs.Common.{◌≡◌, ℕ, zero, suc, Bool, true, false, eqb, cond, not, ◌&&◌, ◌||◌, ◌+◌, ◌<◌, ◌≤◌, List, [], ◌∷◌, ◌++◌, length, refl, sym, ap, ◌∙◌, arith, eqb-true}
use Rattle.std.proofs.lemmas.Bool.{false_from_ne_true, eqb-false}
use Rattle.std.proofs.lemmas.Grind.{common_steps}
use Rattle.std.specs.Prelude.{nat_lt, map, sum_by, Option, Some, None, slice_index_or}
use Rattle.com_base.specs.declared.value.RefValue.{RefValue}
use Rattle.com_packets.specs.declared.Packet as P
use Rattle.com_proxy.specs.declared.ProxyRow.{ProxyRow}
use Rattle.com_slots.specs.Table.{held_in}
use Rattle.com_stub.specs.StubRows.{is_connected}
use Rattle.com_refs_books.specs.Counting.{count_if}
use Rattle.com_refs_books.specs.Changes.{Books, held_outside, packet_holds, cookie_holds, changed, change, ToProxy, Same, Makes}
use Rattle.com_refs_holders.specs.Tables.{Tables, books_of, packet_read, cookie_read, owns_of, no_object, object_in, direct_in, is_made, made_in}
use Rattle.com_refs_holders.specs.Makes.{MadeWithPlace}
use Rattle.com_refs_holders.specs.Places.{OneMore, locals_of, places_of, has_row}
use Rattle.com_refs_holders.specs.Stands.{Known}
use Rattle.com_refs_holders.specs.Steps.{made_live}
use Rattle.com_refs_holders.proofs.Enrolls.{no_row_yet, object_before, direct_new}
use Rattle.com_refs_holders.specs.declared.ObjectRow.{ObjectRow}
use Rattle.com_refs.specs.Counts.{hold_of, hold_more, outside_of, IsCounted, IsCountedBut}
use Rattle.com_refs.specs.declared.NewObject.{NewObject}
use Rattle.com_refs.specs.Makes.{IsMade, IsNewObject}
use Rattle.com_refs.proofs.Counteds.{more_is, more_length, at_most}
use Rattle.com_refs.proofs.Steps.{live-row}

-- ---- the new object is the next one

pub next_of_new : (rows : List ObjectRow) (o : ℕ) → IsNewObject rows o → o ≡ length rows + 1
next_of_new rows o new = elim (nat_lt (length rows + 1) o) as (λ b. nat_lt (length rows + 1) o ≡ b → o ≡ length rows + 1) [
  | true ↦ λ h. absurd (grind (arith, common_steps, h, new.others (length rows + 1)))
  | false ↦ λ h. grind (arith, common_steps, h, new.numbered, new.unmade)
] refl

pub new_of_next : (rows : List ObjectRow) (o : ℕ) → o ≡ length rows + 1 → IsNewObject rows o
new_of_next rows o h = record {
  numbered = omega (arith, h);
  unmade = grind (arith, common_steps, h);
  others = λ x some less. grind (arith, common_steps, h, some, less);
}

pub spare_counted : (t : Tables) (m : ℕ) (hs : List ℕ) → IsCounted t hs → IsCounted (record t { spare = m }) hs
unfolding books_of
spare_counted t m hs c = record { counted = c.counted; tidy = c.tidy; as_many = c.as_many; small = c.small }

-- ---- what was not made has no holder

no-locals : (rs : List ProxyRow) (o : ℕ) → ((c j : ℕ) → has_row rs c o j ≡ false) → locals_of o rs ≡ 0
no-locals [] o h = refl
no-locals (r ∷ rs) o h = grind (arith, common_steps, h r.apartment r.iface, no-locals rs o (λ c j. grind (arith, common_steps, h c j)))

packet-tail : (x : Option P.Packet) (ps : List (Option P.Packet)) (o : ℕ) → ((n : ℕ) (p : P.Packet) → held_in (x ∷ ps) n ≡ Some p → eqb p.object o ≡ false) → (n : ℕ) (p : P.Packet) → held_in ps n ≡ Some p → eqb p.object o ≡ false
packet-tail x ps o h zero p g = absurd (cc)
packet-tail x ps o h (suc n) p g = h (suc (suc n)) p g

no-packets : (live : ℕ → Bool) (o : ℕ) (ps : List (Option P.Packet)) → ((n : ℕ) (p : P.Packet) → held_in ps n ≡ Some p → eqb p.object o ≡ false) → sum_by (packet_holds o) (map (packet_read live) ps) ≡ 0
no-packets live o [] h = refl
no-packets live o (None ∷ ps) h = grind (arith, common_steps, no-packets live o ps (packet-tail None ps o h))
no-packets live o (Some p ∷ ps) h = grind (arith, common_steps, h 1 p refl, no-packets live o ps (packet-tail (Some p) ps o h))

cookie-tail : (x : Option RefValue) (gs : List (Option RefValue)) (o : ℕ) → ((n : ℕ) (r : RefValue) → held_in (x ∷ gs) n ≡ Some r → eqb r.object o ≡ false) → (n : ℕ) (r : RefValue) → held_in gs n ≡ Some r → eqb r.object o ≡ false
cookie-tail x gs o h zero r g = absurd (cc)
cookie-tail x gs o h (suc n) r g = h (suc (suc n)) r g

no-cookies : (live : ℕ → Bool) (o : ℕ) (gs : List (Option RefValue)) → ((n : ℕ) (r : RefValue) → held_in gs n ≡ Some r → eqb r.object o ≡ false) → sum_by (cookie_holds o) (map (cookie_read live) gs) ≡ 0
no-cookies live o [] h = refl
no-cookies live o (None ∷ gs) h = grind (arith, common_steps, no-cookies live o gs (cookie-tail None gs o h))
no-cookies live o (Some r ∷ gs) h = grind (arith, common_steps, h 1 r refl, no-cookies live o gs (cookie-tail (Some r) gs o h))

module _ (t : Tables) (o : ℕ) (k : Known t) (new : o ≡ length t.objects + 1) where
  other : (x : ℕ) → x ≤ length t.objects → eqb x o ≡ false
  other x h = false_from_ne_true _ (λ e. omega (arith, h, new, eqb-true x o e))

  fresh : outside_of t o ≡ 0
  unfolding books_of
  fresh = omega (
    arith,
    no-locals t.proxies o (no_row_yet t o k new),
    no-packets (is_connected t.stubs) o t.packets (λ n p h. other p.object (k.counters p.object p.iface (k.packets n p h)).1),
    no-cookies (is_connected t.stubs) o t.cookies (λ n r h. other r.object (k.counters r.object r.iface (k.cookies n r h)).1),
  )

-- ---- a row more of what is counted

hold-pushed : (hs : List ℕ) (x : ℕ) → hold_of (hs ++ 0 ∷ []) x ≡ hold_of hs x
hold-pushed hs zero = refl
hold-pushed [] (suc zero) = refl
hold-pushed [] (suc (suc x)) = refl
hold-pushed (h ∷ hs) (suc zero) = refl
hold-pushed (h ∷ hs) (suc (suc x)) = hold-pushed hs (suc x)

hold-past : (hs : List ℕ) (x : ℕ) → length hs < x → hold_of hs x ≡ 0
hold-past hs zero h = refl
hold-past [] (suc x) h = refl
hold-past (r ∷ hs) (suc zero) h = absurd (omega (arith, h))
hold-past (r ∷ hs) (suc (suc x)) h = let less : length hs < suc x = omega (arith, h) in hold-past hs (suc x) less

pub made_but : (t m : Tables) (hs : List ℕ) (o : ℕ) → IsCounted t hs → Known t → o ≡ length t.objects + 1 → books_of m ≡ made_live o (books_of t) → m.proxies ≡ t.proxies → ((x : ℕ) → direct_in m x ≡ direct_in t x)
    → length m.objects ≡ length t.objects + 1 → t.issued ≤ m.issued → IsCountedBut m (hs ++ 0 ∷ []) o
made_but t m hs o c k new e er direct len issued = record {
  counted = λ x l. hold-pushed hs x ∙ (elim (eqb x o) as (λ y. eqb x o ≡ y → y || (books_of t).live x ≡ true → hold_of hs x ≡ outside_of m x) [
    | true ↦ λ y g. let same : x ≡ o = eqb-true x o y in let past : length hs < o = omega (arith, new, c.as_many) in rw same (hold-past hs o past ∙ sym (outside o ∙ fresh t o k new))
    | false ↦ λ y g. c.counted x g ∙ sym (outside x)
  ] refl (live x l));
  others = λ x n l.
      let before : (books_of t).live x ≡ true = grind (arith, common_steps, live x l, n) in
      omega (arith, c.tidy x before, outside x, direct x);
  as_many = let pushed : length (hs ++ 0 ∷ []) ≡ length hs + 1 = grind (arith, common_steps) in omega (arith, pushed, c.as_many, len);
  small = λ x. omega (arith, hold-pushed hs x, c.small x, issued);
} where
  outside : (x : ℕ) → outside_of m x ≡ outside_of t x
  outside x = omega (arith, ap (λ (b : Books). held_outside b x) e, ap (λ rs. locals_of x rs) er)

  live : (x : ℕ) → (books_of m).live x ≡ true → eqb x o || (books_of t).live x ≡ true
  live x l = sym (ap (λ (b : Books). b.live x) e) ∙ l

makes-none : (b : Books) (w : Bool) (a o i x : ℕ) → held_outside (changed b (cond w Same (ToProxy a o i 5))) x ≡ held_outside b x
makes-none b true a o i x = refl
makes-none b false a o i x = refl

one-holder : (owned : Bool) (d e f g : ℕ) → d ≡ e + count_if (owned && true) → f ≡ g + count_if (not owned && true) → 0 < d + f
one-holder true d e f g p q = let r : d ≡ e + 1 = p in omega (arith, r)
one-holder false d e f g p q = let r : f ≡ g + 1 = q in omega (arith, r)

pub made_counted : (m v : Tables) (hs : List ℕ) (a o i : ℕ) → IsCountedBut m hs o → books_of v ≡ changed (books_of m) (change (owns_of m.objects) (books_of m) (Makes a o i)) → OneMore m v a o (owns_of m.objects o a) → v.issued ≡ m.issued + 1 → 0 < o → o ≤ length m.objects
    → IsCounted v (hold_more o (not (owns_of m.objects o a)) hs)
made_counted m v hs a o i c e one ei some made =
    let range : o ≤ length hs = omega (arith, made, c.as_many) in
    record {
      counted = λ x l. more_is o (not (owns_of m.objects o a)) hs x some range ∙ ap (λ (n : ℕ). n + count_if (not (owns_of m.objects o a) && eqb x o)) (c.counted x (sym (live x) ∙ l)) ∙ sym (outside x);
      tidy = λ x l. elim (eqb x o) as (λ y. eqb x o ≡ y → 0 < direct_in v x + outside_of v x) [
        | true ↦ λ y. one-holder (owns_of m.objects o a) (direct_in v x) (direct_in m x) (outside_of v x) (outside_of m x) (one.direct x ∙ ap (λ (b : Bool). direct_in m x + count_if (owns_of m.objects o a && b)) y) (outside x ∙ ap (λ (b : Bool). outside_of m x + count_if (not (owns_of m.objects o a) && b)) y)
        | false ↦ λ y. omega (arith, c.others x (eqb-false x o y) (sym (live x) ∙ l), outside x, one.direct x)
      ] refl;
      as_many = more_length o (not (owns_of m.objects o a)) hs ∙ c.as_many ∙ sym one.made;
      small = λ x. omega (arith, more_is o (not (owns_of m.objects o a)) hs x some range, at_most (not (owns_of m.objects o a) && eqb x o), c.small x, ei);
    }
  where
    live : (x : ℕ) → (books_of v).live x ≡ (books_of m).live x
    live x = live-row m v _ e x

    outside : (x : ℕ) → outside_of v x ≡ outside_of m x + count_if (not (owns_of m.objects o a) && eqb x o)
    outside x = let out : held_outside (books_of v) x ≡ held_outside (books_of m) x = ap (λ (b : Books). held_outside b x) e ∙ makes-none (books_of m) (owns_of m.objects o a) a o i x in omega (arith, out, one.all_elsewhere x)

pub same_owner : (os us : List ObjectRow) (r : ObjectRow) (x a : ℕ) → us ≡ os ++ r ∷ [] → x ≤ length os → owns_of us x a ≡ owns_of os x a
unfolding owns_of
same_owner os us r x a e h = let is : object_in us x ≡ object_in os x = ap (λ us. object_in us x) e ∙ object_before os r x h in rw is refl

row_new : (os : List ObjectRow) (r : ObjectRow) (k : ℕ) → slice_index_or (os ++ r ∷ []) k no_object ≡ cond (eqb k (length os)) r (slice_index_or os k no_object)
row_new [] r zero = refl
row_new [] r (suc k) = grind (arith, common_steps)
row_new (o ∷ os) r zero = grind (arith, common_steps)
row_new (o ∷ os) r (suc k) = row_new os r k ∙ ap (λ (b : Bool). cond b r (slice_index_or os k no_object)) (grind (arith, common_steps))

-- Who owns each object once one more is made.
pub owner_new : (os us : List ObjectRow) (r : ObjectRow) (o x a : ℕ) → us ≡ os ++ r ∷ [] → o ≡ length os + 1 → owns_of us x a ≡ cond (eqb x o) (r.agile || eqb r.owner a) (owns_of os x a)
unfolding owns_of
owner_new os us r o zero a e n =
    let other : eqb 0 o ≡ false = grind (arith, common_steps, n) in
    ap (λ (b : Bool). cond b (r.agile || eqb r.owner a) (no_object.agile || eqb no_object.owner a)) (sym other)
owner_new os us r o (suc k) a e n =
    let same : eqb k (length os) ≡ eqb (suc k) o = grind (arith, common_steps, n) in
    ap (λ (l : List ObjectRow). (slice_index_or l k no_object).agile || eqb (slice_index_or l k no_object).owner a) e
    ∙ ap (λ (x : ObjectRow). x.agile || eqb x.owner a) (row_new os r k ∙ ap (λ (b : Bool). cond b r (slice_index_or os k no_object)) same)
    ∙ split (eqb (suc k) o)
  where
    split : (b : Bool) → ((cond b r (slice_index_or os k no_object)).agile || eqb (cond b r (slice_index_or os k no_object)).owner a) ≡ cond b (r.agile || eqb r.owner a) ((slice_index_or os k no_object).agile || eqb (slice_index_or os k no_object).owner a)
    split true = refl
    split false = refl

-- ---- an object is made, with its first place

-- What each object was made for once one more is made.
made_new : (os us : List ObjectRow) (r : ObjectRow) (o x : ℕ) → us ≡ os ++ r ∷ [] → o ≡ length os + 1 → made_in us x ≡ cond (eqb x o) (record r { direct = 0 }) (made_in os x)
made_new os us r o zero e n =
    let other : eqb 0 o ≡ false = grind (arith, common_steps, n) in
    ap (λ (b : Bool). cond b (record r { direct = 0 }) (record no_object { direct = 0 })) (sym other)
made_new os us r o (suc k) e n =
    let same : eqb k (length os) ≡ eqb (suc k) o = grind (arith, common_steps, n) in
    ap (λ (l : List ObjectRow). record (slice_index_or l k no_object) { direct = 0 }) e
    ∙ ap (λ (x : ObjectRow). record x { direct = 0 }) (row_new os r k ∙ ap (λ (b : Bool). cond b r (slice_index_or os k no_object)) same)
    ∙ split (eqb (suc k) o)
  where
    split : (b : Bool) → record (cond b r (slice_index_or os k no_object)) { direct = 0 } ≡ cond b (record r { direct = 0 }) (record (slice_index_or os k no_object) { direct = 0 })
    split true = refl
    split false = refl

-- The tables of an object with its first place.
module _ (t u : Tables) (m : NewObject) (set : List ℕ) (new : m.object ≡ length t.objects + 1)
    (k : MadeWithPlace t u m.object m.owner m.agile set m.apartment m.iface) where
  grown : length u.objects ≡ length t.objects + 1
  grown = k.places.made ∙ ap (λ os. length os) k.objects ∙ grind (arith, common_steps)

  given : (x : ℕ) → made_in u.objects x ≡ cond (eqb x m.object) (record { owner = m.owner; agile = m.agile; direct = 0 }) (made_in t.objects x)
  given x = k.places.as_made x ∙ made_new t.objects k.between.objects _ m.object x k.objects new

  itself : (n : ℕ) → eqb n n ≡ true
  itself n = grind (arith, common_steps)

  its-owner : (object_in u.objects m.object).owner ≡ m.owner
  its-owner =
      ap (λ (r : ObjectRow). r.owner) (given m.object)
      ∙ ap (λ (b : Bool). (cond b (record { owner = m.owner; agile = m.agile; direct = 0 }) (made_in t.objects m.object)).owner) (itself m.object)

  there : is_made u.objects m.object ≡ true
  there = grind (arith, common_steps, new, grown)

  row-of : (w v : ℕ → ℕ → Bool) (b c : Books) → b ≡ c → v m.object m.apartment ≡ w m.object m.apartment
      → changed b (change w b (Makes m.apartment m.object m.iface)) ≡ changed c (change v c (Makes m.apartment m.object m.iface))
  row-of w v b c e h =
      ap (λ (b : Books). changed b (change w b (Makes m.apartment m.object m.iface))) e
      ∙ ap (λ (x : Bool). changed c (cond x Same (ToProxy m.apartment m.object m.iface 5))) (sym h)

  pub made_whole : IsMade t u m set
  made_whole = record {
    row = k.row ∙ row-of (owns_of k.between.objects) (owns_of u.objects) _ _ k.books (k.places.owns m.object m.apartment);
    made = grown;
    owner = ap (λ (b : Bool). cond b (Some (object_in u.objects m.object).owner) None) there ∙ ap (λ (n : ℕ). Some n) its-owner;
    as_made = given;
    owns = λ x c h. k.places.owns x c ∙ same_owner t.objects k.between.objects _ x c k.objects h;
    whose = λ x c. k.places.owns x c ∙ owner_new t.objects k.between.objects _ m.object x c k.objects new;
    direct = λ x. k.places.direct x
        ∙ ap (λ (b : Bool). direct_in k.between x + count_if (b && eqb x m.object)) (sym (k.places.owns m.object m.apartment))
        ∙ ap (λ (n : ℕ). n + count_if (owns_of u.objects m.object m.apartment && eqb x m.object)) (ap (λ os. (object_in os x).direct) k.objects ∙ direct_new t.objects _ x refl);
    elsewhere = λ c x. k.places.elsewhere c x
        ∙ ap (λ (b : Bool). places_of c x k.between.proxies + count_if (not b && (eqb c m.apartment && eqb x m.object))) (sym (k.places.owns m.object m.apartment))
        ∙ ap (λ rs. places_of c x rs + count_if (not (owns_of u.objects m.object m.apartment) && (eqb c m.apartment && eqb x m.object))) k.proxies;
    offers = λ x j. k.kept x j ∙ k.offered x j;
    issued = omega (arith, k.counted, k.issued);
  }

-- Room that was made before is no part of it.
pub made_spare : (t u : Tables) (n : ℕ) (m : NewObject) (set : List ℕ) → IsMade (record t { spare = n }) u m set → IsMade t u m set
unfolding books_of
made_spare t u n m set k = record {
  row = k.row;
  made = k.made;
  owner = k.owner;
  as_made = k.as_made;
  owns = k.owns;
  whose = k.whose;
  direct = k.direct;
  elsewhere = k.elsewhere;
  offers = k.offers;
  issued = k.issued;
}
