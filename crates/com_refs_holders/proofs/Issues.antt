-- New public references of a proxy, and a direct place more.
use Rattle.std.proofs.Common.{◌≡◌, ℕ, zero, suc, Bool, true, false, eqb, cond, ◌+◌, ◌*◌, ◌^◌, ◌<◌, ◌≤◌, List, [], ◌∷◌, length, refl, sym, ap, subst, ◌∙◌, arith}
use Rattle.std.proofs.lemmas.Grind.{common_steps}
use Rattle.std.proofs.lemmas.List.{length-set}
use Rattle.std.specs.Prelude.{Some}
use Rattle.com_packets.specs.declared.Packet as P
use Rattle.com_proxy.specs.declared.ProxyRow.{ProxyRow}
use Rattle.com_proxy.specs.Rows.{public_of, local_of, changed_row, gaining, IsFree}
use Rattle.com_stub.specs.StubRows.{is_connected, has_stub}
use Rattle.com_stub.specs.CounterRows.{has_counter, changed_counter, more, sum_of}
use Rattle.com_refs_books.specs.Counting.{count_if}
use Rattle.com_refs_books.specs.Changes.{Books, ToProxy, changed}
use Rattle.com_refs_books.proofs.Evens.{changed-even, more-even}
use Rattle.com_refs_holders.specs.declared.TheConstants.{MOST_ISSUED}
use Rattle.com_refs_holders.specs.declared.ObjectRow.{ObjectRow}
use Rattle.com_refs_holders.specs.Tables.{Tables, books_of, owns_of, owners_of, object_in, direct_in, direct_more, outstanding_in, made_in}
use Rattle.com_refs_holders.specs.Places.{OneMore, places_of, locals_of, distinct}
use Rattle.com_refs_holders.specs.Stands.{IsEven, IsHolders}
use Rattle.com_refs_holders.proofs.Counters.{has_more, sum_more, count_le}
use Rattle.com_refs_holders.proofs.Rowed.{Gains, gains, grown_public, local_le, places_le}
use Rattle.com_refs_holders.proofs.Standing.{stands_by, kept_proxies, kept_packets, kept_cookies}
use Rattle.com_refs_holders.proofs.Grown.{grown_stands, more_elsewhere}
use Rattle.com_refs_holders.proofs.Joins.{proxy-at, join_count}
use Rattle.com_refs_holders.proofs.Marshals.{stub_more}
use Rattle.com_refs_holders.proofs.Keeps.{counted_within, direct_books}
use Rattle.com_refs_holders.proofs.Same.{same_books}

-- ---- five new references

pub record Issued (t u : Tables) (a o i : ℕ) : Type 0 where
  pub objects : u.objects ≡ t.objects
  pub stubs : u.stubs ≡ t.stubs
  pub counters : u.counters ≡ changed_counter (more 5) o i t.counters
  pub proxies : u.proxies ≡ changed_row (gaining 5) a o i t.proxies
  pub packets : u.packets ≡ t.packets
  pub cookies : u.cookies ≡ t.cookies
  pub issued : u.issued ≡ t.issued + 1

pub issued_books : (t u : Tables) (a o i : ℕ) → Issued t u a o i → is_connected t.stubs o ≡ true → has_counter t.counters o i ≡ true → books_of u ≡ changed (books_of t) (ToProxy a o i 5)
unfolding books_of
issued_books t u a o i s h q = same_books _ (changed (books_of t) (ToProxy a o i 5)) (record {
  stub = λ x j. rw (s.stubs, s.counters) (stub_more (is_connected t.stubs) t.counters t.proxies t.packets t.cookies o i 5 x j h q);
  proxy = λ c x j. rw (s.stubs, s.proxies) (proxy-at (is_connected t.stubs) t.proxies a o i 5 c x j h);
  packets = rw (s.stubs, s.packets) refl;
  cookies = rw (s.stubs, s.cookies) refl;
  live = λ x. rw s.stubs refl;
  arguments = refl;
  result = refl;
})

issues-even : (b : Books) (a o i : ℕ) → IsEven b → IsEven (changed b (ToProxy a o i 5))
issues-even b a o i v = record { apartments = v.apartments + (a + 1); even = changed-even (v.apartments + (a + 1)) b (ToProxy a o i 5) (omega arith) (more-even v.apartments (v.apartments + (a + 1)) b (omega arith) v.even) }

pub issued_stands : (t u : Tables) (a o i : ℕ) → Issued t u a o i → is_connected t.stubs o ≡ true → has_counter t.counters o i ≡ true → owns_of t.objects o a ≡ false → IsHolders t → IsHolders u
issued_stands t u a o i k h q w s = grown_stands (gaining 5) 5 (gains 5) a o i t u (record {
  objects = k.objects;
  stubs = k.stubs;
  has = λ x j. ap (λ cs. has_counter cs x j) k.counters ∙ has_more t.counters o i 5 x j;
  sums = λ x. let e : sum_of u.counters x ≡ sum_of (changed_counter (more 5) o i t.counters) x = ap (λ cs. sum_of cs x) k.counters in omega (arith, e, sum_more t.counters o i 5 x);
  proxies = k.proxies;
  packets = kept_packets t u s.known k.packets;
  many = let e : length u.packets ≡ length t.packets = ap (λ ps. length ps) k.packets in omega (arith, e);
  cookies = k.cookies;
  issued = k.issued;
}) q w (subst IsEven (sym (issued_books t u a o i k h q)) (issues-even (books_of t) a o i s.even)) s

pub issued_places : (t u : Tables) (a o i : ℕ) → Issued t u a o i → OneMore t u a o false
issued_places t u a o i k = more_elsewhere (gaining 5) 5 (gains 5) a o i t u k.objects k.proxies

-- the numbers fit
pub public_fits : (t : Tables) (a o i : ℕ) → IsHolders t → is_connected t.stubs o ≡ true → public_of t.proxies a o i ≤ 5 * t.issued
public_fits t a o i s h = omega (arith, counted_within t a o i s h, count_le t.counters o i, s.bounded.sums o)

pub local_fits : (t : Tables) (a o i : ℕ) → IsHolders t → t.issued < MOST_ISSUED → local_of t.proxies a o i + 1 < 2 ^ 64
local_fits t a o i s few = omega (arith, few, local_le t.proxies a o i, places_le t.proxies a o, s.bounded.locals o)

pub join_public_fits : (t : Tables) (a n : ℕ) (p : P.Packet) → IsHolders t → outstanding_in (is_connected t.stubs) t.packets n ≡ Some p → public_of t.proxies a p.object p.iface + p.refs ≤ 5 * t.issued
join_public_fits t a n p s h = omega (arith, join_count t a n p s h, count_le t.counters p.object p.iface, s.bounded.sums p.object)

-- ---- no new references

pub record Copied (t u : Tables) (f : ProxyRow → ProxyRow) (a o i : ℕ) : Type 0 where
  pub objects : u.objects ≡ t.objects
  pub stubs : u.stubs ≡ t.stubs
  pub counters : u.counters ≡ t.counters
  pub proxies : u.proxies ≡ changed_row f a o i t.proxies
  pub packets : u.packets ≡ t.packets
  pub cookies : u.cookies ≡ t.cookies
  pub issued : u.issued ≡ t.issued + 1

module _ (t u : Tables) (f : ProxyRow → ProxyRow) (g : Gains f 0) (a o i : ℕ) (k : Copied t u f a o i) where
  same-public : (c x j : ℕ) → public_of u.proxies c x j ≡ public_of t.proxies c x j
  same-public c x j = ap (λ rs. public_of rs c x j) k.proxies ∙ grown_public f 0 g a o i t.proxies c x j ∙ grind (arith, common_steps)

  pub copied_books : books_of u ≡ books_of t
  unfolding books_of
  copied_books = same_books _ (books_of t) (record {
    stub = λ x j. rw (k.stubs, k.counters) refl;
    proxy = λ c x j. rw k.stubs (ap (λ (n : ℕ). cond (is_connected t.stubs x) n 0) (same-public c x j));
    packets = rw (k.stubs, k.packets) refl;
    cookies = rw (k.stubs, k.cookies) refl;
    live = λ x. rw k.stubs refl;
    arguments = refl;
    result = refl;
  })

  pub copied_stands : has_counter t.counters o i ≡ true → owns_of t.objects o a ≡ false → IsHolders t → IsHolders u
  copied_stands q w s = grown_stands f 0 g a o i t u (record {
    objects = k.objects;
    stubs = k.stubs;
    has = λ x j. ap (λ cs. has_counter cs x j) k.counters;
    sums = λ x. let e : sum_of u.counters x ≡ sum_of t.counters x = ap (λ cs. sum_of cs x) k.counters in omega (arith, e);
    proxies = k.proxies;
    packets = kept_packets t u s.known k.packets;
    many = let e : length u.packets ≡ length t.packets = ap (λ ps. length ps) k.packets in omega (arith, e);
    cookies = k.cookies;
    issued = k.issued;
  }) q w (subst IsEven (sym copied_books) s.even) s

  pub copied_places : OneMore t u a o false
  copied_places = more_elsewhere f 0 g a o i t u k.objects k.proxies

-- ---- a direct place more

more-object : (rows : List ObjectRow) (o x : ℕ) → ((object_in (direct_more o rows) x).owner ≡ (object_in rows x).owner) × ((object_in (direct_more o rows) x).agile ≡ (object_in rows x).agile)
more-object rows zero x = (refl, refl)
more-object rows (suc o) zero = (refl, refl)
more-object [] (suc o) (suc x) = (refl, refl)
more-object (r ∷ rows) (suc zero) (suc zero) = (refl, refl)
more-object (r ∷ rows) (suc zero) (suc (suc x)) = (refl, refl)
more-object (r ∷ rows) (suc (suc o)) (suc zero) = (refl, refl)
more-object (r ∷ rows) (suc (suc o)) (suc (suc x)) = more-object rows (suc o) (suc x)

more_made : (rows : List ObjectRow) (o x : ℕ) → made_in (direct_more o rows) x ≡ made_in rows x
more_made rows o x = let e = more-object rows o x in rw (e.0, e.1) refl

pub more_owns : (rows : List ObjectRow) (o x c : ℕ) → owns_of (direct_more o rows) x c ≡ owns_of rows x c
unfolding owns_of
more_owns rows o x c = let e = more-object rows o x in rw (e.0, e.1) refl

pub more_length : (o : ℕ) (rows : List ObjectRow) → length (direct_more o rows) ≡ length rows
more_length zero rows = refl
more_length (suc o) rows = length-set rows o _

pub more_owners : (rows : List ObjectRow) (o : ℕ) → owners_of (direct_more o rows) ≡ owners_of rows
more_owners rows zero = refl
more_owners [] (suc o) = refl
more_owners (r ∷ rows) (suc zero) = refl
more_owners (r ∷ rows) (suc (suc o)) = ap (λ xs. r.owner ∷ xs) (more_owners rows (suc o))

more-direct : (rows : List ObjectRow) (o x : ℕ) → 0 < o → o ≤ length rows → (object_in (direct_more o rows) x).direct ≡ (object_in rows x).direct + count_if (eqb x o)
more-direct rows zero x h l = absurd (omega arith)
more-direct rows (suc o) zero h l = grind (arith, common_steps)
more-direct [] (suc o) (suc x) h l = absurd (omega arith)
more-direct (r ∷ rows) (suc zero) (suc zero) h l = grind (arith, common_steps)
more-direct (r ∷ rows) (suc zero) (suc (suc x)) h l = grind (arith, common_steps)
more-direct (r ∷ rows) (suc (suc o)) (suc zero) h l = grind (arith, common_steps)
more-direct (r ∷ rows) (suc (suc o)) (suc (suc x)) h l = let made : suc o ≤ length rows = omega (arith, l) in grind (arith, common_steps, more-direct rows (suc o) (suc x) (omega arith) made)

pub direct_made : (rows : List ObjectRow) (o : ℕ) → 0 < (object_in rows o).direct → (0 < o) × (o ≤ length rows)
direct_made rows zero h = absurd (omega arith)
direct_made [] (suc o) h = absurd (omega arith)
direct_made (r ∷ rows) (suc zero) h = (omega arith, omega arith)
direct_made (r ∷ rows) (suc (suc o)) h = let m = direct_made rows (suc o) h in (omega arith, omega (arith, m.1))

pub record Direct (t u : Tables) (o : ℕ) : Type 0 where
  pub objects : u.objects ≡ direct_more o t.objects
  pub stubs : u.stubs ≡ t.stubs
  pub counters : u.counters ≡ t.counters
  pub proxies : u.proxies ≡ t.proxies
  pub packets : u.packets ≡ t.packets
  pub cookies : u.cookies ≡ t.cookies
  pub issued : u.issued ≡ t.issued + 1

module _ (t u : Tables) (o : ℕ) (k : Direct t u o) (some : 0 < o) (made : o ≤ length t.objects) where
  pub kept_direct : (x : ℕ) → direct_in u x ≡ direct_in t x + count_if (eqb x o)
  kept_direct x = ap (λ os. (object_in os x).direct) k.objects ∙ more-direct t.objects o x some made

  pub kept_places : (a : ℕ) → OneMore t u a o true
  kept_places a = record {
    made = ap (λ os. length os) k.objects ∙ more_length o t.objects;
    owns = λ x c. ap (λ os. owns_of os x c) k.objects ∙ more_owns t.objects o x c;
    as_made = λ x. ap (λ os. made_in os x) k.objects ∙ more_made t.objects o x;
    direct = kept_direct;
    elsewhere = λ c x. let e : places_of c x u.proxies ≡ places_of c x t.proxies = ap (λ rs. places_of c x rs) k.proxies in grind (arith, common_steps, e);
    all_elsewhere = λ x. let e : locals_of x u.proxies ≡ locals_of x t.proxies = ap (λ rs. locals_of x rs) k.proxies in grind (arith, common_steps, e);
  }

  pub kept_books : books_of u ≡ books_of t
  kept_books = direct_books t u k.stubs k.counters k.proxies k.packets k.cookies

  at-most : (b : Bool) → count_if b ≤ 1
  at-most true = omega arith
  at-most false = omega arith

  pub kept_stands : IsHolders t → IsHolders u
  kept_stands s =
      let len : length u.objects ≡ length t.objects = ap (λ os. length os) k.objects ∙ more_length o t.objects in
      stands_by t u 1 s (record {
        known = record {
          objects = len;
          stubs = λ x. ap (λ ss. has_stub ss x) k.stubs;
          counters = λ x j. ap (λ cs. has_counter cs x j) k.counters;
          proxies = kept_proxies t u s.known k.proxies;
          packets = kept_packets t u s.known k.packets;
          cookies = kept_cookies t u s.known k.cookies;
        };
        bounded = record {
          issued = k.issued;
          sums = λ x. let e : sum_of u.counters x ≡ sum_of t.counters x = ap (λ cs. sum_of cs x) k.counters in omega (arith, e);
          locals = λ x. let e : locals_of x u.proxies ≡ locals_of x t.proxies = ap (λ rs. locals_of x rs) k.proxies in omega (arith, e);
          direct = λ x. omega (arith, kept_direct x, at-most (eqb x o));
          packets = let e : length u.packets ≡ length t.packets = ap (λ ps. length ps) k.packets in omega (arith, e);
          cookies = let e : length u.cookies ≡ length t.cookies = ap (λ gs. length gs) k.cookies in omega (arith, e);
          objects = omega (arith, len);
        };
        apart = ap (λ rs. distinct rs) k.proxies ∙ s.apart;
      })
      (subst IsEven (sym kept_books) s.even)
      (λ c x j f. ap (λ (b : Books). b.proxy c x j) kept_books ∙ s.placed c x j (subst (λ (rs : List ProxyRow). IsFree rs c x) k.proxies f))
      (λ c x j h. ap (λ rs. local_of rs c x j) k.proxies ∙ s.owned c x j (sym (ap (λ os. owns_of os x c) k.objects ∙ more_owns t.objects o x c) ∙ h))
