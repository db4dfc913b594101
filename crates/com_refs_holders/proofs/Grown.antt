-- One place more of an apartment that does not own the object, with public references of its proxy.
use Rattle.std.proofs.Common.{◌≡◌, ℕ, Bool, true, false, eqb, ◌&&◌, ◌||◌, ◌+◌, ◌≤◌, List, length, refl, sym, ap, subst, ◌∙◌, arith, eqb-true}
use Rattle.std.proofs.lemmas.Grind.{common_steps}
use Rattle.std.specs.Prelude.{Some}
use Rattle.com_packets.specs.declared.Packet as P
use Rattle.com_proxy.specs.declared.ProxyRow.{ProxyRow}
use Rattle.com_proxy.specs.Rows.{public_of, local_of, changed_row, IsFree}
use Rattle.com_slots.specs.Table.{held_in}
use Rattle.com_stub.specs.declared.counters.CounterRow.{CounterRow}
use Rattle.com_stub.specs.StubRows.{has_stub}
use Rattle.com_stub.specs.CounterRows.{has_counter, sum_of}
use Rattle.com_refs_books.specs.Counting.{count_if}
use Rattle.com_refs_holders.specs.Tables.{Tables, books_of, owns_of, object_in, direct_in, made_in}
use Rattle.com_refs_holders.specs.Places.{OneMore, places_of, locals_of, has_row, distinct}
use Rattle.com_refs_holders.specs.Stands.{IsEven, IsHolders}
use Rattle.com_refs_holders.proofs.Rowed.{Gains, has_changed, distinct_changed, places_grown, locals_grown, grown_public, grown_local}
use Rattle.com_refs_holders.proofs.Standing.{Steps, stands_by, kept_cookies}

pub at_most : (b : Bool) → count_if b ≤ 1
at_most true = omega arith
at_most false = omega arith

pub gained_known : (rs : List ProxyRow) (cs : List CounterRow) (f : ProxyRow → ProxyRow) (n : ℕ) (g : Gains f n) (a o i : ℕ) → has_counter cs o i ≡ true → ((c x j : ℕ) → has_row rs c x j ≡ true → has_counter cs x j ≡ true)
    → (c x j : ℕ) → has_row (changed_row f a o i rs) c x j ≡ true → has_counter cs x j ≡ true
gained_known rs cs f n g a o i q k c x j h =
    let has : has_row rs c x j || (eqb x o && (eqb c a && eqb j i)) ≡ true = sym (has_changed f g.keeps a o i rs c x j) ∙ h in
    elim (has_row rs c x j) as (λ t. has_row rs c x j ≡ t → t || (eqb x o && (eqb c a && eqb j i)) ≡ true → has_counter cs x j ≡ true) [
      | true ↦ λ e f. k c x j e
      | false ↦ λ e f.
          let ex : x ≡ o = eqb-true x o (grind (arith, common_steps, f)) in
          let ej : j ≡ i = eqb-true j i (grind (arith, common_steps, f)) in
          rw (ex, ej) q
    ] refl has

module _ (f : ProxyRow → ProxyRow) (n : ℕ) (g : Gains f n) (a o i : ℕ) where
  pub record Grown (t u : Tables) : Type 0 where
    pub objects : u.objects ≡ t.objects
    pub stubs : u.stubs ≡ t.stubs
    pub has : (x j : ℕ) → has_counter u.counters x j ≡ has_counter t.counters x j
    pub sums : (x : ℕ) → sum_of u.counters x ≤ sum_of t.counters x + 5
    pub proxies : u.proxies ≡ changed_row f a o i t.proxies
    pub packets : (m : ℕ) (p : P.Packet) → held_in u.packets m ≡ Some p → has_counter t.counters p.object p.iface ≡ true
    pub many : length u.packets ≤ length t.packets + 1
    pub cookies : u.cookies ≡ t.cookies
    pub issued : u.issued ≡ t.issued + 1

  grown-steps : (t u : Tables) → Grown t u → has_counter t.counters o i ≡ true → IsHolders t → Steps t u 1
  grown-steps t u k q s = record {
    known = record {
      objects = ap (λ os. length os) k.objects;
      stubs = λ x. ap (λ ss. has_stub ss x) k.stubs;
      counters = k.has;
      proxies = λ c x j h. gained_known t.proxies t.counters f n g a o i q s.known.proxies c x j (ap (λ rs. has_row rs c x j) (sym k.proxies) ∙ h);
      packets = k.packets;
      cookies = kept_cookies t u s.known k.cookies;
    };
    bounded = record {
      issued = k.issued;
      sums = λ x. omega (arith, k.sums x);
      locals = λ x. let e : locals_of x u.proxies ≡ locals_of x (changed_row f a o i t.proxies) = ap (λ rs. locals_of x rs) k.proxies in omega (arith, e, locals_grown f n g a o i t.proxies x, at_most (eqb x o));
      direct = λ x. let e : direct_in u x ≡ direct_in t x = ap (λ os. (object_in os x).direct) k.objects in omega (arith, e);
      packets = k.many;
      cookies = let e : length u.cookies ≡ length t.cookies = ap (λ gs. length gs) k.cookies in omega (arith, e);
      objects = let e : length u.objects ≡ length t.objects = ap (λ os. length os) k.objects in omega (arith, e);
    };
    apart = ap (λ rs. distinct rs) k.proxies ∙ distinct_changed f g.keeps a o i t.proxies s.apart;
  }

  public-same : (rs : List ProxyRow) (c x j : ℕ) → eqb c a && (eqb x o && eqb j i) ≡ false → public_of (changed_row f a o i rs) c x j ≡ public_of rs c x j
  public-same rs c x j e = grown_public f n g a o i rs c x j ∙ grind (arith, common_steps, e)

  free-before : (rs : List ProxyRow) (c x : ℕ) → IsFree (changed_row f a o i rs) c x → IsFree rs c x
  free-before rs c x h = record { none_held = λ l. omega (arith, h.none_held l, grown_local f n g a o i rs c x l) }

  free-apart : (rs : List ProxyRow) (c x j : ℕ) → IsFree (changed_row f a o i rs) c x → eqb c a && (eqb x o && eqb j i) ≡ false
  free-apart rs c x j h = elim (eqb c a && (eqb x o && eqb j i)) as (λ y. eqb c a && (eqb x o && eqb j i) ≡ y → y ≡ false) [
    | true ↦ λ y. absurd (grind (arith, common_steps, h.none_held j, grown_local f n g a o i rs c x j, y))
    | false ↦ λ y. refl
  ] refl

  pub grown_stands : (t u : Tables) → Grown t u → has_counter t.counters o i ≡ true → owns_of t.objects o a ≡ false → IsEven (books_of u) → IsHolders t → IsHolders u
  unfolding books_of
  grown_stands t u k q w e s = stands_by t u 1 s (grown-steps t u k q s) e
      (λ c x j h.
      let free : IsFree (changed_row f a o i t.proxies) c x = subst (λ (rs : List ProxyRow). IsFree rs c x) k.proxies h in
      rw (k.stubs, k.proxies, public-same t.proxies c x j (free-apart t.proxies c x j free)) (s.placed c x j (free-before t.proxies c x free)))
      (λ c x j h.
      let own : owns_of t.objects x c ≡ true = sym (ap (λ os. owns_of os x c) k.objects) ∙ h in
      let none : local_of t.proxies c x j ≡ 0 = s.owned c x j own in
      ap (λ rs. local_of rs c x j) k.proxies ∙ grown_local f n g a o i t.proxies c x j ∙ (elim (eqb c a && (eqb x o && eqb j i)) as (λ y. eqb c a && (eqb x o && eqb j i) ≡ y → local_of t.proxies c x j + count_if y ≡ 0) [
        | true ↦ λ y.
            let ec : c ≡ a = eqb-true c a (grind (arith, common_steps, y)) in
            let ex : x ≡ o = eqb-true x o (grind (arith, common_steps, y)) in
            let no : owns_of t.objects x c ≡ false = rw (ec, ex) w in
            absurd (cc)
        | false ↦ λ y. omega (arith, none)
      ] refl))

  pub more_elsewhere : (t u : Tables) → u.objects ≡ t.objects → u.proxies ≡ changed_row f a o i t.proxies → OneMore t u a o false
  more_elsewhere t u eo er = record {
    made = ap (λ os. length os) eo;
    owns = λ x c. ap (λ os. owns_of os x c) eo;
    as_made = λ x. ap (λ os. made_in os x) eo;
    direct = λ x. let e : direct_in u x ≡ direct_in t x = ap (λ os. (object_in os x).direct) eo in grind (arith, common_steps, e);
    elsewhere = λ c x. ap (λ rs. places_of c x rs) er ∙ places_grown f n g a o i t.proxies c x;
    all_elsewhere = λ x. ap (λ rs. locals_of x rs) er ∙ locals_grown f n g a o i t.proxies x;
  }
