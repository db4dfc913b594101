-- A cookie that is given or revoked, in the tables and in the books.
use Rattle.std.proofs.Common.{◌≡◌, ℕ, zero, suc, Bool, true, false, eqb, cond, ◌&&◌, ◌+◌, ◌-◌, ◌≤◌, List, [], ◌∷◌, ◌++◌, length, refl, sym, ap, subst, ◌∙◌, arith}
use Rattle.std.proofs.lemmas.Grind.{common_steps}
use Rattle.std.specs.Prelude.{map, Option, Some, None, slice_index_or, slice_set, sum_by}
use Rattle.com_base.specs.declared.value.RefValue.{RefValue}
use Rattle.com_slots.specs.Table.{with_entry, held_in}
use Rattle.com_stub.specs.declared.counters.CounterRow.{CounterRow}
use Rattle.com_stub.specs.StubRows.{is_connected, has_stub}
use Rattle.com_stub.specs.CounterRows.{counter_of, changed_counter, more, less, has_counter, sum_of}
use Rattle.com_refs_books.specs.Changes.{Books, cookie, changed, ToCookie, Withdraw, no_cookie, lose_stub, set_from_one, cookie_holds_of}
use Rattle.com_refs_books.specs.declared.keeps.Cookie.{Cookie}
use Rattle.com_refs_books.specs.Evens.{Even}
use Rattle.com_refs_books.proofs.Evens.{changed-even}
use Rattle.com_refs_holders.specs.Tables.{Tables, object_in, direct_in, books_of, cookie_read, owns_of, made_in}
use Rattle.com_refs_holders.specs.Places.{SamePlaces, places_of, locals_of, distinct}
use Rattle.com_refs_holders.specs.Stands.{IsEven, IsHolders}
use Rattle.com_refs_holders.proofs.Counters.{has_more, sum_more, has_less, sum_less}
use Rattle.com_refs_holders.proofs.Standing.{Steps, kept_proxies, kept_packets}
use Rattle.com_refs_holders.proofs.Marshals.{stub_more}
use Rattle.com_refs_holders.proofs.Drops.{stub_less, ended_held, ended_length}
use Rattle.com_refs_holders.proofs.Keeps.{same_places, pushed_held}
use Rattle.com_refs_holders.proofs.Same.{same_books}

pub same_counted : (t u : Tables) → u.objects ≡ t.objects → u.proxies ≡ t.proxies → SamePlaces t u
same_counted t u eo er = record {
  made = ap (λ os. length os) eo;
  owns = λ x c. ap (λ os. owns_of os x c) eo;
  as_made = λ x. ap (λ os. made_in os x) eo;
  direct = λ x. ap (λ os. (object_in os x).direct) eo;
  elsewhere = λ c x. ap (λ rs. places_of c x rs) er;
  all_elsewhere = λ x. ap (λ rs. locals_of x rs) er;
}

-- ---- a new cookie

pushed-cookie : (live : ℕ → Bool) (gs : List (Option RefValue)) (r : RefValue) → live r.object ≡ true
    → map (cookie_read live) (gs ++ Some r ∷ []) ≡ map (cookie_read live) gs ++ record { is_revoked = false; object = r.object; iface = r.iface; refs = 1 } ∷ []
pushed-cookie live [] r h = rw h refl
pushed-cookie live (g ∷ gs) r h = ap (λ l. cookie_read live g ∷ l) (pushed-cookie live gs r h)

pub record Registered (t u : Tables) (r : RefValue) : Type 0 where
  pub objects : u.objects ≡ t.objects
  pub stubs : u.stubs ≡ t.stubs
  pub counters : u.counters ≡ changed_counter (more 1) r.object r.iface t.counters
  pub proxies : u.proxies ≡ t.proxies
  pub packets : u.packets ≡ t.packets
  pub cookies : u.cookies ≡ t.cookies ++ Some r ∷ []
  pub issued : u.issued ≡ t.issued + 1

pub registered_books : (t u : Tables) (r : RefValue) → Registered t u r → is_connected t.stubs r.object ≡ true → has_counter t.counters r.object r.iface ≡ true → books_of u ≡ changed (books_of t) (ToCookie r.object r.iface 1)
unfolding books_of
registered_books t u r k h q = same_books _ (changed (books_of t) (ToCookie r.object r.iface 1)) (record {
  stub = λ x j. rw (k.stubs, k.counters) (stub_more (is_connected t.stubs) t.counters t.proxies t.packets t.cookies r.object r.iface 1 x j h q);
  proxy = λ c x j. rw (k.stubs, k.proxies) refl;
  packets = rw (k.stubs, k.packets) refl;
  cookies = rw (k.stubs, k.cookies) (pushed-cookie (is_connected t.stubs) t.cookies r h);
  live = λ x. rw k.stubs refl;
  arguments = refl;
  result = refl;
})

registered-steps : (t u : Tables) (r : RefValue) → Registered t u r → has_counter t.counters r.object r.iface ≡ true → IsHolders t → Steps t u 1
registered-steps t u r k q s = record {
  known = record {
    objects = ap (λ os. length os) k.objects;
    stubs = λ x. ap (λ ss. has_stub ss x) k.stubs;
    counters = λ x j. ap (λ cs. has_counter cs x j) k.counters ∙ has_more t.counters r.object r.iface 1 x j;
    proxies = kept_proxies t u s.known k.proxies;
    packets = kept_packets t u s.known k.packets;
    cookies = λ n v h. pushed_held t.cookies r n v (ap (λ gs. held_in gs n) (sym k.cookies) ∙ h) (λ (v : RefValue). has_counter t.counters v.object v.iface ≡ true) q (λ v h. s.known.cookies n v h);
  };
  bounded = record {
    issued = k.issued;
    sums = λ x. let e : sum_of u.counters x ≡ sum_of (changed_counter (more 1) r.object r.iface t.counters) x = ap (λ cs. sum_of cs x) k.counters in omega (arith, e, sum_more t.counters r.object r.iface 1 x);
    locals = λ x. let e : locals_of x u.proxies ≡ locals_of x t.proxies = ap (λ rs. locals_of x rs) k.proxies in omega (arith, e);
    direct = λ x. let e : direct_in u x ≡ direct_in t x = ap (λ os. (object_in os x).direct) k.objects in omega (arith, e);
    packets = let e : length u.packets ≡ length t.packets = ap (λ ps. length ps) k.packets in omega (arith, e);
    cookies = let e : length u.cookies ≡ length t.cookies + 1 = ap (λ gs. length gs) k.cookies ∙ grind (arith, common_steps) in omega (arith, e);
    objects = let e : length u.objects ≡ length t.objects = ap (λ os. length os) k.objects in omega (arith, e);
  };
  apart = ap (λ rs. distinct rs) k.proxies ∙ s.apart;
}

pub registered_stands : (t u : Tables) (r : RefValue) → Registered t u r → is_connected t.stubs r.object ≡ true → has_counter t.counters r.object r.iface ≡ true → IsHolders t → IsHolders u
registered_stands t u r k h q s = same_places t u 1 s (registered-steps t u r k q s) k.stubs k.objects (λ c x j. rw k.proxies refl) (λ c x j. rw k.proxies (omega arith))
    (subst IsEven (sym (registered_books t u r k h q)) (record { apartments = s.even.apartments; even = changed-even s.even.apartments (books_of t) (ToCookie r.object r.iface 1) tt s.even.even }))

-- ---- a cookie that ends

cookie-at : (live : ℕ → Bool) (gs : List (Option RefValue)) (k : ℕ) → slice_index_or (map (cookie_read live) gs) k no_cookie ≡ cookie_read live (slice_index_or gs k None)
cookie-at live [] k = refl
cookie-at live (g ∷ gs) zero = refl
cookie-at live (g ∷ gs) (suc k) = cookie-at live gs k

cookie-ended : (live : ℕ → Bool) (gs : List (Option RefValue)) (k : ℕ) → map (cookie_read live) (slice_set gs k None) ≡ slice_set (map (cookie_read live) gs) k no_cookie
cookie-ended live [] k = refl
cookie-ended live (g ∷ gs) zero = refl
cookie-ended live (g ∷ gs) (suc k) = ap (λ xs. cookie_read live g ∷ xs) (cookie-ended live gs k)

cookie-end : (live : ℕ → Bool) (gs : List (Option RefValue)) (n : ℕ) → map (cookie_read live) (with_entry gs n None) ≡ set_from_one (map (cookie_read live) gs) n no_cookie
cookie-end live gs zero = refl
cookie-end live gs (suc k) = cookie-ended live gs k

abbrev pub cookie_of : (live : Bool) → RefValue → Cookie
cookie_of live r = record { is_revoked = false; object = r.object; iface = r.iface; refs = cond live 1 0 }

pub cookie_shown : (t : Tables) (n : ℕ) (r : RefValue) → held_in t.cookies n ≡ Some r → cookie (books_of t) n ≡ cookie_of (is_connected t.stubs r.object) r
unfolding books_of
cookie_shown t zero r h = absurd (cc)
cookie_shown t (suc k) r h = cookie-at (is_connected t.stubs) t.cookies k ∙ ap (λ e. cookie_read (is_connected t.stubs) e) h

pub cookie_hidden : (t : Tables) (n : ℕ) → held_in t.cookies n ≡ None → cookie (books_of t) n ≡ no_cookie
unfolding books_of
cookie_hidden t zero h = refl
cookie_hidden t (suc k) h = cookie-at (is_connected t.stubs) t.cookies k ∙ ap (λ e. cookie_read (is_connected t.stubs) e) h

-- what a cookie holds is counted
cookie-le : (k j n : ℕ) (gs : List Cookie) → cond (eqb (slice_index_or gs n no_cookie).object k && eqb (slice_index_or gs n no_cookie).iface j) (slice_index_or gs n no_cookie).refs 0 ≤ sum_by (cookie_holds_of k j) gs
cookie-le k j n [] = grind (arith, common_steps)
cookie-le k j zero (g ∷ gs) = grind (arith, common_steps)
cookie-le k j (suc n) (g ∷ gs) = grind (arith, common_steps, cookie-le k j n gs)

of-books : (b : Books) (n m : ℕ) (g : Cookie) → Even m b → cookie b n ≡ g → g.refs ≤ b.stub g.object g.iface
of-books b zero m g e h = subst (λ (g : Cookie). g.refs ≤ b.stub g.object g.iface) h (omega arith)
of-books b (suc n) m g e h =
    let le = rw h at (cookie-le g.object g.iface n b.cookies) in
    grind (arith, common_steps, le, e.equal g.object g.iface)

pub cookie_within : (t : Tables) (n : ℕ) (r : RefValue) → IsHolders t → held_in t.cookies n ≡ Some r → is_connected t.stubs r.object ≡ true → 1 ≤ cond (is_connected t.stubs r.object) (counter_of t.counters r.object r.iface).count 0
unfolding books_of
cookie_within t n r s h l =
    let g : cookie (books_of t) n ≡ cookie_of true r = cookie_shown t n r h ∙ ap (λ b. cookie_of b r) l in
    of-books (books_of t) n s.even.apartments (cookie_of true r) s.even.even g

plain : (l : Bool) (x : ℕ) → l ≡ true → 1 ≤ cond l x 0 → 1 ≤ x
plain true x e h = h
plain false x e h = absurd (cc)

pub cookie_count : (t : Tables) (n : ℕ) (r : RefValue) → IsHolders t → held_in t.cookies n ≡ Some r → is_connected t.stubs r.object ≡ true → 1 ≤ (counter_of t.counters r.object r.iface).count
cookie_count t n r s h l = plain (is_connected t.stubs r.object) _ l (cookie_within t n r s h l)

pub record Withdrawn (t u : Tables) (n : ℕ) (r : RefValue) : Type 0 where
  pub objects : u.objects ≡ t.objects
  pub stubs : u.stubs ≡ t.stubs
  pub counters : u.counters ≡ cond (is_connected t.stubs r.object) (changed_counter (less 1) r.object r.iface t.counters) t.counters
  pub proxies : u.proxies ≡ t.proxies
  pub packets : u.packets ≡ t.packets
  pub cookies : u.cookies ≡ with_entry t.cookies n None
  pub issued : u.issued ≡ t.issued

-- nothing less is nothing changed
less-none : (f : ℕ → ℕ → ℕ) (o i x j : ℕ) → f x j ≡ cond (eqb x o && eqb j i) (f o i - 0) (f x j)
less-none f o i x j = grind (arith, common_steps)

stub-withdrawn : (live : ℕ → Bool) (cs : List CounterRow) (o i x j : ℕ) (l : Bool) → live o ≡ l
    → cond (live x) (counter_of (cond l (changed_counter (less 1) o i cs) cs) x j).count 0 ≡ cond (eqb x o && eqb j i) (cond (live o) (counter_of cs o i).count 0 - cond l 1 0) (cond (live x) (counter_of cs x j).count 0)
stub-withdrawn live cs o i x j true h = stub_less live cs o i 1 x j h
stub-withdrawn live cs o i x j false h = less-none (λ k l. cond (live k) (counter_of cs k l).count 0) o i x j

withdrawn : (b : Books) (n : ℕ) (g : Cookie) → cookie b n ≡ g → changed b (Withdraw n) ≡ record b { stub = lose_stub b g.object g.iface g.refs; cookies = set_from_one b.cookies n no_cookie }
withdrawn b n g e = ap (λ (g : Cookie). record b { stub = lose_stub b g.object g.iface g.refs; cookies = set_from_one b.cookies n no_cookie }) e

pub withdrawn_books : (t u : Tables) (n : ℕ) (r : RefValue) → Withdrawn t u n r → held_in t.cookies n ≡ Some r → books_of u ≡ changed (books_of t) (Withdraw n)
unfolding books_of
withdrawn_books t u n r k h =
    same_books _ (record (books_of t) { stub = lose_stub (books_of t) r.object r.iface (cond (is_connected t.stubs r.object) 1 0); cookies = set_from_one (books_of t).cookies n no_cookie }) (record {
      stub = λ x j. rw (k.stubs, k.counters) (stub-withdrawn (is_connected t.stubs) t.counters r.object r.iface x j (is_connected t.stubs r.object) refl);
      proxy = λ c x j. rw (k.stubs, k.proxies) refl;
      packets = rw (k.stubs, k.packets) refl;
      cookies = rw (k.stubs, k.cookies) (cookie-end (is_connected t.stubs) t.cookies n);
      live = λ x. rw k.stubs refl;
      arguments = refl;
      result = refl;
    }) ∙ sym (withdrawn (books_of t) n (cookie_of (is_connected t.stubs r.object) r) (cookie_shown t n r h))

pub cond-has : (l : Bool) (cs : List CounterRow) (o i x j : ℕ) → has_counter (cond l (changed_counter (less 1) o i cs) cs) x j ≡ has_counter cs x j
cond-has true cs o i x j = has_less cs o i 1 x j
cond-has false cs o i x j = refl

cond-sum : (l : Bool) (cs : List CounterRow) (o i x : ℕ) → sum_of (cond l (changed_counter (less 1) o i cs) cs) x ≤ sum_of cs x
cond-sum true cs o i x = sum_less cs o i 1 x
cond-sum false cs o i x = omega arith

withdrawn-steps : (t u : Tables) (n : ℕ) (r : RefValue) → Withdrawn t u n r → IsHolders t → Steps t u 0
withdrawn-steps t u n r k s = record {
  known = record {
    objects = ap (λ os. length os) k.objects;
    stubs = λ x. ap (λ ss. has_stub ss x) k.stubs;
    counters = λ x j. ap (λ cs. has_counter cs x j) k.counters ∙ cond-has (is_connected t.stubs r.object) t.counters r.object r.iface x j;
    proxies = kept_proxies t u s.known k.proxies;
    packets = kept_packets t u s.known k.packets;
    cookies = λ m v h. s.known.cookies m v (ended_held t.cookies n m v (ap (λ gs. held_in gs m) (sym k.cookies) ∙ h));
  };
  bounded = record {
    issued = k.issued ∙ omega arith;
    sums = λ x. let e : sum_of u.counters x ≡ sum_of (cond (is_connected t.stubs r.object) (changed_counter (less 1) r.object r.iface t.counters) t.counters) x = ap (λ cs. sum_of cs x) k.counters in omega (arith, e, cond-sum (is_connected t.stubs r.object) t.counters r.object r.iface x);
    locals = λ x. let e : locals_of x u.proxies ≡ locals_of x t.proxies = ap (λ rs. locals_of x rs) k.proxies in omega (arith, e);
    direct = λ x. let e : direct_in u x ≡ direct_in t x = ap (λ os. (object_in os x).direct) k.objects in omega (arith, e);
    packets = let e : length u.packets ≡ length t.packets = ap (λ ps. length ps) k.packets in omega (arith, e);
    cookies = let e : length u.cookies ≡ length t.cookies = ap (λ gs. length gs) k.cookies ∙ ended_length t.cookies n in omega (arith, e);
    objects = let e : length u.objects ≡ length t.objects = ap (λ os. length os) k.objects in omega (arith, e);
  };
  apart = ap (λ rs. distinct rs) k.proxies ∙ s.apart;
}

pub withdrawn_stands : (t u : Tables) (n : ℕ) (r : RefValue) → Withdrawn t u n r → held_in t.cookies n ≡ Some r → IsHolders t → IsHolders u
withdrawn_stands t u n r k h s = same_places t u 0 s (withdrawn-steps t u n r k s) k.stubs k.objects (λ c x j. rw k.proxies refl) (λ c x j. rw k.proxies (omega arith))
    (subst IsEven (sym (withdrawn_books t u n r k h)) (record { apartments = s.even.apartments; even = changed-even s.even.apartments (books_of t) (Withdraw n) tt s.even.even }))
