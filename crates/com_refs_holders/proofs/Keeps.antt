-- What is true of the tables at all times stays so.
use Rattle.std.proofs.Common.{◌≡◌, ℕ, zero, suc, Bool, true, false, eqb, cond, ◌&&◌, ◌+◌, ◌-◌, ◌*◌, ◌/◌, ◌<◌, ◌≤◌, List, [], ◌∷◌, ◌++◌, length, refl, sym, ap, subst, ◌∙◌, arith, eqb-true, inl, inr}
use Rattle.std.proofs.lemmas.Bool.{cases_lt}
use Rattle.std.proofs.lemmas.List.{length-set}
use Rattle.std.proofs.lemmas.Grind.{common_steps}
use Rattle.std.specs.Prelude.{◌↔◌, IsTrue, nat_le, Option, Some, sum_by}
use Rattle.com_base.specs.declared.value.MarshalMode.{MarshalMode}
use Rattle.com_base.specs.declared.value.MarshalMode.TheVariants as marshal
use Rattle.com_proxy.specs.declared.ProxyRow.{ProxyRow}
use Rattle.com_proxy.specs.Rows.{public_of, local_of, IsFree, changed_row, halved}
use Rattle.com_proxy.proofs.Rows.{row_changed}
use Rattle.com_stub.specs.StubRows.{is_connected, has_stub}
use Rattle.com_stub.specs.CounterRows.{counter_of, has_counter, changed_counter, more, sum_of}
use Rattle.com_stub.specs.declared.counters.CounterRow.{CounterRow}
use Rattle.com_refs_holders.specs.declared.ObjectRow.{ObjectRow}
use Rattle.com_refs_books.specs.Counting.{sum_below, count_if}
use Rattle.com_refs_books.specs.Changes.{Books, changed, Change, ToPacket, Split, Same, Marshals, marshal_change, change, given_back, packet_holds_of, cookie_holds_of}
use Rattle.com_refs_holders.specs.Tables.{Tables, tables, books_of, owns_of, owners_of, direct_less, direct_in, object_in, made_in}
use Rattle.com_refs_holders.specs.Steps.{minted, minted_counters, minted_rows}
use Rattle.com_refs_books.specs.Evens.{Even}
use Rattle.com_refs_holders.specs.Stands.{IsEven, IsHolders, Tells, Released}
use Rattle.com_refs_books.proofs.Sums.{sum-changed}
use Rattle.com_refs_books.specs.Evens.{Fits}
use Rattle.com_refs_books.proofs.Evens.{changed-even, more-even}
use Rattle.com_packets.specs.declared.Packet as P
use Rattle.com_slots.specs.Table.{held_in}
use Rattle.com_refs_holders.specs.Places.{SamePlaces, OneLess, places_of, locals_of, has_row, distinct}
use Rattle.com_refs_holders.proofs.Standing.{Steps, stands_by, kept_proxies, kept_packets, kept_cookies}
use Rattle.com_refs_holders.proofs.Counters.{has_more, sum_more}
use Rattle.com_refs_holders.proofs.Counting.{locals_split}
use Rattle.com_refs_holders.proofs.Rowed.{keeps_halved, has_same, public_has, distinct_changed, places_split}
use Rattle.com_refs_holders.proofs.Gives.{OnlyAt, GivesOne, gives_given}
use Rattle.com_refs_holders.proofs.Marshals.{marshal_tables}
use Rattle.com_refs_holders.proofs.Releases.{Rest, released_gives}

none-held : {T : Type 0} {C : Type 0} (n : ℕ) (p : T) → held_in [] n ≡ Some p → C
none-held zero p h = absurd (cc)
none-held (suc n) p h = absurd (cc)

pub empty_stands : IsHolders (tables [] [] [] [] [] [] 0 0)
unfolding books_of
empty_stands = record {
  even = record { apartments = 0; even = record { equal = λ o i. refl; past = λ a o i h. refl } };
  placed = λ a o i f. refl;
  owned = λ a o i h. refl;
  known = record {
    stubs = λ o h. absurd (cc);
    counters = λ o i h. absurd (cc);
    proxies = λ a o i h. absurd (cc);
    packets = λ n p h. none-held n p h;
    cookies = λ n r h. none-held n r h;
  };
  bounded = record { sums = λ o. omega arith; locals = λ o. omega arith; direct = none-direct; packets = omega arith; cookies = omega arith; objects = omega arith };
  apart = refl;
} where
  none-direct : (o : ℕ) → (object_in [] o).direct ≤ 0
  none-direct zero = omega arith
  none-direct (suc o) = omega arith

-- ---- what is held is counted

pub term-le : (n a : ℕ) (f : ℕ → ℕ) → a < n → f a ≤ sum_below n f
term-le zero a f h = absurd (omega arith)
term-le (suc n) a f h = elim (cases_lt a n) [
  | inl l ↦ omega (arith, term-le n a f l)
  | inr l ↦ let same : a ≡ n = omega arith in rw same (omega arith)
]

pub even_within : (n : ℕ) (b : Books) (a o i : ℕ) → Even n b → b.proxy a o i ≤ b.stub o i
even_within n b a o i e = elim (cases_lt a n) [
  | inl l ↦ omega (arith, e.equal o i, term-le n a (λ c. b.proxy c o i) l)
  | inr l ↦ omega (arith, e.past a o i l)
]

pub counted_within : (t : Tables) (a o i : ℕ) → IsHolders t → is_connected t.stubs o ≡ true → public_of t.proxies a o i ≤ (counter_of t.counters o i).count
unfolding books_of
counted_within t a o i s h =
    let w : cond (is_connected t.stubs o) (public_of t.proxies a o i) 0 ≤ cond (is_connected t.stubs o) (counter_of t.counters o i).count 0 = even_within s.even.apartments (books_of t) a o i s.even.even in
    rw h at w

-- ---- a new packet

change-even : (n a : ℕ) (b : Books) (c : Change) → Fits (n + (a + 1)) b c → Even n b → IsEven (changed b c)
change-even n a b c f e = record { apartments = n + (a + 1); even = changed-even (n + (a + 1)) b c f (more-even n (n + (a + 1)) b (omega arith) e) }

cond-fits : (n : ℕ) (b : Books) (t : Bool) (x y : Change) → Fits n b x → Fits n b y → Fits n b (cond t x y)
cond-fits n b true x y p q = p
cond-fits n b false x y p q = q

marshal-fits : (n : ℕ) (b : Books) (m : MarshalMode) (w : Bool) (a o i : ℕ) → a < n → Fits n b (marshal_change m w (b.proxy a o i) a o i)
marshal-fits n b marshal.Normal w a o i h = cond-fits n b w (ToPacket marshal.Normal o i 5) _ tt (cond-fits n b (nat_le 2 (b.proxy a o i)) (Split a o i (b.proxy a o i / 2)) (ToPacket marshal.Normal o i 5) (h, omega arith) tt)
marshal-fits n b marshal.Strong w a o i h = tt
marshal-fits n b marshal.Weak w a o i h = tt

pub marshal-even : (owns : ℕ → ℕ → Bool) (b : Books) (a o i : ℕ) (m : MarshalMode) → IsEven b → IsEven (changed b (change owns b (Marshals a m o i)))
marshal-even owns b a o i m e = change-even e.apartments a b _ (cond-fits (e.apartments + (a + 1)) b (b.live o) (marshal_change m (owns o a) (b.proxy a o i) a o i) Same (marshal-fits (e.apartments + (a + 1)) b m (owns o a) a o i (omega arith)) tt) e.even

halved-local : (rs : List ProxyRow) (a o i c x j : ℕ) (t : Bool) → local_of (cond t (changed_row halved a o i rs) rs) c x j ≡ local_of rs c x j
halved-local rs a o i c x j true = grind (arith, common_steps, row_changed rs halved a o i c x j (λ r. refl) (λ r. refl) (λ r. refl))
halved-local rs a o i c x j false = refl

halved-public : (rs : List ProxyRow) (a o i c x j : ℕ) (t : Bool) → public_of (cond t (changed_row halved a o i rs) rs) c x j ≤ public_of rs c x j
halved-public rs a o i c x j true = grind (arith, common_steps, row_changed rs halved a o i c x j (λ r. refl) (λ r. refl) (λ r. refl))
halved-public rs a o i c x j false = omega arith

pub minted_local : (owned : Bool) (m : MarshalMode) (a o i : ℕ) (rs : List ProxyRow) (c x j : ℕ) → local_of (minted_rows owned m a o i rs) c x j ≡ local_of rs c x j
unfolding minted_rows
minted_local true marshal.Normal a o i rs c x j = refl
minted_local false marshal.Normal a o i rs c x j = halved-local rs a o i c x j (nat_le 2 (public_of rs a o i))
minted_local owned marshal.Strong a o i rs c x j = refl
minted_local owned marshal.Weak a o i rs c x j = refl

pub minted_public : (owned : Bool) (m : MarshalMode) (a o i : ℕ) (rs : List ProxyRow) (c x j : ℕ) → public_of (minted_rows owned m a o i rs) c x j ≤ public_of rs c x j
unfolding minted_rows
minted_public true marshal.Normal a o i rs c x j = omega arith
minted_public false marshal.Normal a o i rs c x j = halved-public rs a o i c x j (nat_le 2 (public_of rs a o i))
minted_public owned marshal.Strong a o i rs c x j = omega arith
minted_public owned marshal.Weak a o i rs c x j = omega arith

less-none : (l : Bool) (x y : ℕ) → x ≤ y → cond l y 0 ≡ 0 → cond l x 0 ≡ 0
less-none true x y h e = omega arith
less-none false x y h e = refl

-- tables of which the places are the same, and no proxy has more
pub same_places : (t u : Tables) (given : ℕ) → IsHolders t → Steps t u given → u.stubs ≡ t.stubs → u.objects ≡ t.objects → ((c x j : ℕ) → local_of u.proxies c x j ≡ local_of t.proxies c x j) → ((c x j : ℕ) → public_of u.proxies c x j ≤ public_of t.proxies c x j)
    → IsEven (books_of u) → IsHolders u
unfolding books_of
same_places t u given s step es eo l p e = stands_by t u given s step e
    (λ a o i f. rw es (less-none (is_connected t.stubs o) _ _ (p a o i) (s.placed a o i (record { none_held = λ j. sym (l a o j) ∙ f.none_held j }))))
    (λ a o i h. l a o i ∙ s.owned a o i (rw eo at h))

cond-has : (t : Bool) (n x j o i : ℕ) (cs : List CounterRow) → has_counter (cond t cs (changed_counter (more n) o i cs)) x j ≡ has_counter cs x j
cond-has true n x j o i cs = refl
cond-has false n x j o i cs = has_more cs o i n x j

pub minted-has : (owned : Bool) (m : MarshalMode) (n o i : ℕ) (cs : List CounterRow) (x j : ℕ) → has_counter (minted_counters owned m n o i cs) x j ≡ has_counter cs x j
unfolding minted_counters
minted-has true marshal.Normal n o i cs x j = has_more cs o i 5 x j
minted-has false marshal.Normal n o i cs x j = cond-has (nat_le 2 n) 5 x j o i cs
minted-has owned marshal.Strong n o i cs x j = has_more cs o i 1 x j
minted-has owned marshal.Weak n o i cs x j = has_more cs o i 0 x j

cond-sum : (t : Bool) (x o i : ℕ) (cs : List CounterRow) → sum_of (cond t cs (changed_counter (more 5) o i cs)) x ≤ sum_of cs x + 5
cond-sum true x o i cs = omega arith
cond-sum false x o i cs = sum_more cs o i 5 x

minted-sum : (owned : Bool) (m : MarshalMode) (n o i : ℕ) (cs : List CounterRow) (x : ℕ) → sum_of (minted_counters owned m n o i cs) x ≤ sum_of cs x + 5
unfolding minted_counters
minted-sum true marshal.Normal n o i cs x = sum_more cs o i 5 x
minted-sum false marshal.Normal n o i cs x = cond-sum (nat_le 2 n) x o i cs
minted-sum owned marshal.Strong n o i cs x = omega (arith, sum_more cs o i 1 x)
minted-sum owned marshal.Weak n o i cs x = omega (arith, sum_more cs o i 0 x)

-- what holds of the rows, and of those after a split, holds of the minted rows
minted-rows : (P : List ProxyRow → Type 0) (owned : Bool) (m : MarshalMode) (a o i : ℕ) (rs : List ProxyRow) → P rs → (2 ≤ public_of rs a o i → P (changed_row halved a o i rs)) → P (minted_rows owned m a o i rs)
unfolding minted_rows
minted-rows P true marshal.Normal a o i rs p h = p
minted-rows P false marshal.Normal a o i rs p h = elim (nat_le 2 (public_of rs a o i)) as (λ t. nat_le 2 (public_of rs a o i) ≡ t → P (cond t (changed_row halved a o i rs) rs)) [
  | true ↦ λ e. h (grind (arith, common_steps, e))
  | false ↦ λ e. p
] refl
minted-rows P owned marshal.Strong a o i rs p h = p
minted-rows P owned marshal.Weak a o i rs p h = p

pub pushed_held : {T : Type 0} (ps : List (Option T)) (p : T) (n : ℕ) (q : T) → held_in (ps ++ Some p ∷ []) n ≡ Some q → (C : T → Type 0) → C p → ((q : T) → held_in ps n ≡ Some q → C q) → C q
pushed_held ps p zero q h C c k = absurd (cc)
pushed_held [] p (suc zero) q h C c k = let same : p ≡ q = cc in subst C same c
pushed_held [] p (suc (suc n)) q h C c k = absurd (cc)
pushed_held (x ∷ ps) p (suc zero) q h C c k = k q h
pushed_held (x ∷ ps) p (suc (suc n)) q h C c k = pushed_held ps p (suc n) q h C c k

pub marshal_steps : (t u : Tables) (m : MarshalMode) (a o i w refs : ℕ) (owned : Bool) → has_counter t.counters o i ≡ true → u.objects ≡ t.objects
    → u.stubs ≡ t.stubs → u.counters ≡ minted_counters owned m (public_of t.proxies a o i) o i t.counters
    → u.proxies ≡ minted_rows owned m a o i t.proxies → u.packets ≡ t.packets ++ Some (record { mode = m; object = o; iface = i; owner = w; refs = refs }) ∷ []
    → u.cookies ≡ t.cookies → u.issued ≡ t.issued + 1 → IsHolders t → Steps t u 1
marshal_steps t u m a o i w refs owned q eo es ec er ep eg ei s = record {
  known = record {
    objects = ap (λ os. length os) eo;
    stubs = λ x. ap (λ ss. has_stub ss x) es;
    counters = λ x j. ap (λ cs. has_counter cs x j) ec ∙ minted-has owned m (public_of t.proxies a o i) o i t.counters x j;
    proxies = λ c x j h. s.known.proxies c x j (sym (minted-rows (λ rs. has_row rs c x j ≡ has_row t.proxies c x j) owned m a o i t.proxies refl (λ some. has_same halved keeps_halved a o i t.proxies (public_has t.proxies a o i (omega arith)) c x j)) ∙ ap (λ rs. has_row rs c x j) (sym er) ∙ h);
    packets = λ n p h. pushed_held t.packets _ n p (ap (λ ps. held_in ps n) (sym ep) ∙ h) (λ (p : P.Packet). has_counter t.counters p.object p.iface ≡ true) q (λ p h. s.known.packets n p h);
    cookies = kept_cookies t u s.known eg;
  };
  bounded = record {
    issued = ei;
    sums = λ x. subst (λ (cs : List CounterRow). sum_of cs x ≤ sum_of t.counters x + 5 * 1) (sym ec) (omega (arith, minted-sum owned m (public_of t.proxies a o i) o i t.counters x));
    locals = λ x. let same : locals_of x u.proxies ≡ locals_of x t.proxies = ap (λ rs. locals_of x rs) er ∙ minted-rows (λ rs. locals_of x rs ≡ locals_of x t.proxies) owned m a o i t.proxies refl (λ some. locals_split t.proxies a o i x) in omega (arith, same);
    direct = λ x. let same : direct_in u x ≡ direct_in t x = ap (λ os. (object_in os x).direct) eo in omega (arith, same);
    packets = let more : length u.packets ≡ length t.packets + 1 = ap (λ ps. length ps) ep ∙ grind (arith, common_steps) in omega (arith, more);
    cookies = let same : length u.cookies ≡ length t.cookies = ap (λ gs. length gs) eg in omega (arith, same);
    objects = let same : length u.objects ≡ length t.objects = ap (λ os. length os) eo in omega (arith, same);
  };
  apart = subst (λ (rs : List ProxyRow). distinct rs ≡ true) (sym er) (minted-rows (λ rs. distinct rs ≡ true) owned m a o i t.proxies s.apart (λ some. distinct_changed halved keeps_halved a o i t.proxies s.apart));
}

pub minted_same : (t u : Tables) (owned : Bool) (m : MarshalMode) (a o i : ℕ) → u.objects ≡ t.objects → u.proxies ≡ minted_rows owned m a o i t.proxies → SamePlaces t u
minted_same t u owned m a o i eo er = record {
  made = ap (λ os. length os) eo;
  owns = λ x c. ap (λ os. owns_of os x c) eo;
  as_made = λ x. ap (λ os. made_in os x) eo;
  direct = λ x. ap (λ os. (object_in os x).direct) eo;
  elsewhere = λ c x. ap (λ rs. places_of c x rs) er ∙ minted-rows (λ rs. places_of c x rs ≡ places_of c x t.proxies) owned m a o i t.proxies refl (λ some. places_split t.proxies a o i c x);
  all_elsewhere = λ x. ap (λ rs. locals_of x rs) er ∙ minted-rows (λ rs. locals_of x rs ≡ locals_of x t.proxies) owned m a o i t.proxies refl (λ some. locals_split t.proxies a o i x);
}

pub marshal_stands : (t u : Tables) (m : MarshalMode) (a o i w : ℕ) → is_connected t.stubs o ≡ true → has_counter t.counters o i ≡ true → u.objects ≡ t.objects
    → u.stubs ≡ t.stubs → u.counters ≡ minted_counters (owns_of t.objects o a) m (public_of t.proxies a o i) o i t.counters
    → u.proxies ≡ minted_rows (owns_of t.objects o a) m a o i t.proxies
    → u.packets ≡ t.packets ++ Some (record { mode = m; object = o; iface = i; owner = w; refs = minted (owns_of t.objects o a) m (public_of t.proxies a o i) }) ∷ []
    → u.cookies ≡ t.cookies → u.issued ≡ t.issued + 1 → IsHolders t → IsHolders u
marshal_stands t u m a o i w h q eo es ec er ep eg ei s = same_places t u 1 s (marshal_steps t u m a o i w _ (owns_of t.objects o a) q eo es ec er ep eg ei s) es eo
    (λ c x j. ap (λ rs. local_of rs c x j) er ∙ minted_local (owns_of t.objects o a) m a o i t.proxies c x j)
    (λ c x j. subst (λ (rs : List ProxyRow). public_of rs c x j ≤ public_of t.proxies c x j) (sym er) (minted_public (owns_of t.objects o a) m a o i t.proxies c x j))
    (subst IsEven (sym (marshal_tables t u m a o i w h q es ec er ep eg)) (marshal-even (owns_of t.objects) (books_of t) a o i m s.even))

-- ---- a place less

less-object : (rows : List ObjectRow) (o x : ℕ) → ((object_in (direct_less o rows) x).owner ≡ (object_in rows x).owner) × ((object_in (direct_less o rows) x).agile ≡ (object_in rows x).agile)
less-object rows zero x = (refl, refl)
less-object rows (suc o) zero = (refl, refl)
less-object [] (suc o) (suc x) = (refl, refl)
less-object (r ∷ rows) (suc zero) (suc zero) = (refl, refl)
less-object (r ∷ rows) (suc zero) (suc (suc x)) = (refl, refl)
less-object (r ∷ rows) (suc (suc o)) (suc zero) = (refl, refl)
less-object (r ∷ rows) (suc (suc o)) (suc (suc x)) = less-object rows (suc o) (suc x)

pub less_owns : (rows : List ObjectRow) (o x c : ℕ) → owns_of (direct_less o rows) x c ≡ owns_of rows x c
unfolding owns_of
less_owns rows o x c = let e = less-object rows o x in rw (e.0, e.1) refl

less_made : (rows : List ObjectRow) (o x : ℕ) → made_in (direct_less o rows) x ≡ made_in rows x
less_made rows o x = let e = less-object rows o x in rw (e.0, e.1) refl

pub less_length : (o : ℕ) (rows : List ObjectRow) → length (direct_less o rows) ≡ length rows
less_length zero rows = refl
less_length (suc o) rows = length-set rows o _

pub less_owners : (rows : List ObjectRow) (o : ℕ) → owners_of (direct_less o rows) ≡ owners_of rows
less_owners rows zero = refl
less_owners [] (suc o) = refl
less_owners (r ∷ rows) (suc zero) = refl
less_owners (r ∷ rows) (suc (suc o)) = ap (λ xs. r.owner ∷ xs) (less_owners rows (suc o))

one-less : (rows : List ObjectRow) (o x : ℕ) → 0 < (object_in rows o).direct → (object_in (direct_less o rows) x).direct + count_if (eqb x o) ≡ (object_in rows x).direct
one-less rows zero x h = absurd (omega arith)
one-less rows (suc o) zero h = grind (arith, common_steps)
one-less [] (suc o) (suc x) h = absurd (omega arith)
one-less (r ∷ rows) (suc zero) (suc zero) h = grind (arith, common_steps, h)
one-less (r ∷ rows) (suc zero) (suc (suc x)) h = grind (arith, common_steps)
one-less (r ∷ rows) (suc (suc o)) (suc zero) h = grind (arith, common_steps)
one-less (r ∷ rows) (suc (suc o)) (suc (suc x)) h = grind (arith, common_steps, one-less rows (suc o) (suc x) h)

pub less_places : (t u : Tables) (a o : ℕ) → 0 < direct_in t o → u.objects ≡ direct_less o t.objects → u.proxies ≡ t.proxies → OneLess t u a o true
less_places t u a o some eo er = record {
  made = ap (λ os. length os) eo ∙ less_length o t.objects;
  owns = λ x c. ap (λ os. owns_of os x c) eo ∙ less_owns t.objects o x c;
  as_made = λ x. ap (λ os. made_in os x) eo ∙ less_made t.objects o x;
  direct = λ x. let e : direct_in u x ≡ (object_in (direct_less o t.objects) x).direct = ap (λ os. (object_in os x).direct) eo in ap (λ (n : ℕ). n + count_if (eqb x o)) e ∙ one-less t.objects o x some;
  elsewhere = λ c x. let e : places_of c x u.proxies ≡ places_of c x t.proxies = ap (λ rs. places_of c x rs) er in grind (arith, common_steps, e);
  all_elsewhere = λ x. let e : locals_of x u.proxies ≡ locals_of x t.proxies = ap (λ rs. locals_of x rs) er in grind (arith, common_steps, e);
}

less_direct : (rows : List ObjectRow) (o x : ℕ) → (object_in (direct_less o rows) x).direct ≤ (object_in rows x).direct
less_direct rows zero x = omega arith
less_direct rows (suc o) zero = omega arith
less_direct [] (suc o) (suc x) = omega arith
less_direct (r ∷ rows) (suc zero) (suc zero) = omega arith
less_direct (r ∷ rows) (suc zero) (suc (suc x)) = omega arith
less_direct (r ∷ rows) (suc (suc o)) (suc zero) = omega arith
less_direct (r ∷ rows) (suc (suc o)) (suc (suc x)) = less_direct rows (suc o) (suc x)

pub direct_books : (t u : Tables) → u.stubs ≡ t.stubs → u.counters ≡ t.counters → u.proxies ≡ t.proxies → u.packets ≡ t.packets → u.cookies ≡ t.cookies → books_of u ≡ books_of t
unfolding books_of
direct_books t u es ec er ep eg = rw (es, ec, er, ep, eg) refl

pub direct_stands : (t u : Tables) (o : ℕ) → IsHolders t → u.objects ≡ direct_less o t.objects → u.stubs ≡ t.stubs → u.counters ≡ t.counters → u.proxies ≡ t.proxies → u.packets ≡ t.packets → u.cookies ≡ t.cookies → u.issued ≡ t.issued → IsHolders u
direct_stands t u o s eo es ec er ep eg ei =
    let same : books_of u ≡ books_of t = direct_books t u es ec er ep eg in
    let len : length u.objects ≡ length t.objects = ap (λ os. length os) eo ∙ less_length o t.objects in
    stands_by t u 0 s (record {
      known = record {
        objects = len;
        stubs = λ x. ap (λ ss. has_stub ss x) es;
        counters = λ x j. ap (λ cs. has_counter cs x j) ec;
        proxies = kept_proxies t u s.known er;
        packets = kept_packets t u s.known ep;
        cookies = kept_cookies t u s.known eg;
      };
      bounded = record {
        issued = ei ∙ omega arith;
        sums = λ x. let e : sum_of u.counters x ≡ sum_of t.counters x = ap (λ cs. sum_of cs x) ec in omega (arith, e);
        locals = λ x. let e : locals_of x u.proxies ≡ locals_of x t.proxies = ap (λ rs. locals_of x rs) er in omega (arith, e);
        direct = λ x. let e : direct_in u x ≡ (object_in (direct_less o t.objects) x).direct = ap (λ os. (object_in os x).direct) eo in omega (arith, e, less_direct t.objects o x);
        packets = let e : length u.packets ≡ length t.packets = ap (λ ps. length ps) ep in omega (arith, e);
        cookies = let e : length u.cookies ≡ length t.cookies = ap (λ gs. length gs) eg in omega (arith, e);
        objects = omega (arith, len);
      };
      apart = ap (λ rs. distinct rs) er ∙ s.apart;
    })
    (subst IsEven (sym same) s.even)
    (λ c x j f. ap (λ (b : Books). b.proxy c x j) same ∙ s.placed c x j (subst (λ (rs : List ProxyRow). IsFree rs c x) er f))
    (λ c x j h. ap (λ rs. local_of rs c x j) er ∙ s.owned c x j (sym (ap (λ os. owns_of os x c) eo ∙ less_owns t.objects o x c) ∙ h))

gives-even : (n a o : ℕ) (b c : Books) (free : Bool) → a < n → GivesOne b c a o free → Even n b → Even n c
gives-even n a o b c free h g e = record {
  equal = λ x j.
      let sum : sum_below n (λ d. c.proxy d x j) + b.proxy a x j ≡ sum_below n (λ d. b.proxy d x j) + c.proxy a x j = sum-changed n a (λ d. b.proxy d x j) (λ d. c.proxy d x j) h (λ d other. sym (g.proxy d x j ∙ grind (arith, common_steps, other))) in
      let here : c.proxy a x j ≡ cond (eqb x o && free) 0 (b.proxy a x j) = g.proxy a x j ∙ grind (arith, common_steps) in
      let within : b.proxy a x j ≤ b.stub x j = even_within n b a x j e in
      rw (g.packets, g.cookies) (
      elim (eqb x o && free) as (λ y. eqb x o && free ≡ y → c.stub x j ≡ sum_below n (λ d. c.proxy d x j) + sum_by (packet_holds_of x j) b.packets + sum_by (cookie_holds_of x j) b.cookies) [
        | true ↦ λ y.
            let same : x ≡ o = eqb-true x o (grind (arith, common_steps, y)) in
            let less : c.stub x j ≡ b.stub x j - b.proxy a x j = g.stub x j ∙ rw y (rw same refl) in
            let gone : c.proxy a x j ≡ 0 = here ∙ rw y refl in
            omega (arith, less, gone, sum, within, e.equal x j)
        | false ↦ λ y.
            let less : c.stub x j ≡ b.stub x j = g.stub x j ∙ rw y (omega arith) in
            let kept : c.proxy a x j ≡ b.proxy a x j = here ∙ rw y refl in
            omega (arith, less, kept, sum, e.equal x j)
      ] refl);
  past = λ d x j k. g.proxy d x j ∙ (elim ((eqb d a && eqb x o) && free) as (λ y. cond y 0 (b.proxy d x j) ≡ 0) [ true ↦ refl | false ↦ e.past d x j k ]);
}

placed_now : (t u : Tables) (a o i : ℕ) (gave : Bool) → IsHolders t → Rest t u → Released a o i gave t.proxies t.counters u.proxies u.counters
    → (is_connected t.stubs o ≡ true → (IsTrue gave ↔ IsFree u.proxies a o)) → (c x j : ℕ) → IsFree u.proxies c x → (books_of u).proxy c x j ≡ 0
unfolding books_of
placed_now t u a o i gave s rest r free c x j f = rw rest.stubs (elim (eqb c a && eqb x o) as (λ y. eqb c a && eqb x o ≡ y → cond (is_connected t.stubs x) (public_of u.proxies c x j) 0 ≡ 0) [
  | true ↦ λ y.
      let ea : c ≡ a = eqb-true c a (grind (arith, common_steps, y)) in
      let eo : x ≡ o = eqb-true x o (grind (arith, common_steps, y)) in
      elim (is_connected t.stubs x) as (λ l. is_connected t.stubs x ≡ l → cond l (public_of u.proxies c x j) 0 ≡ 0) [
        | true ↦ λ l. let g : gave ≡ true = (free (rw eo at l)).1 (subst (λ (d : ℕ). IsFree u.proxies d o) ea (subst (λ (d : ℕ). IsFree u.proxies c d) eo f)) in r.public c x j ∙ rw (y, g) refl
        | false ↦ λ l. refl
      ] refl
  | false ↦ λ y.
      let same : public_of u.proxies c x j ≡ public_of t.proxies c x j = r.public c x j ∙ rw y refl in
      let here : cond (is_connected t.stubs x) (public_of t.proxies c x j) 0 ≡ 0 = s.placed c x j (record { none_held = λ k. let local : local_of u.proxies c x k ≡ local_of t.proxies c x k = r.local c x k ∙ grind (arith, common_steps, y) in sym local ∙ f.none_held k }) in
      rw same here
] refl)

pub released_stands : (t u : Tables) (a o i : ℕ) (gave : Bool) → IsHolders t → Rest t u → u.objects ≡ t.objects → u.issued ≡ t.issued → owns_of t.objects o a ≡ false → Released a o i gave t.proxies t.counters u.proxies u.counters
    → (is_connected t.stubs o ≡ true → (IsTrue gave ↔ IsFree u.proxies a o)) → IsHolders u
released_stands t u a o i gave s rest eo ei own r free = stands_by t u 0 s (record {
  known = record {
    objects = ap (λ os. length os) eo;
    stubs = λ x. ap (λ ss. has_stub ss x) rest.stubs;
    counters = r.has;
    proxies = λ c x j h. s.known.proxies c x j (sym (r.rows c x j) ∙ h);
    packets = kept_packets t u s.known rest.packets;
    cookies = kept_cookies t u s.known rest.cookies;
  };
  bounded = record {
    issued = ei ∙ omega arith;
    sums = λ x. omega (arith, r.sums x);
    locals = λ x. omega (arith, r.locals x);
    direct = λ x. let e : direct_in u x ≡ direct_in t x = ap (λ os. (object_in os x).direct) eo in omega (arith, e);
    packets = let e : length u.packets ≡ length t.packets = ap (λ ps. length ps) rest.packets in omega (arith, e);
    cookies = let e : length u.cookies ≡ length t.cookies = ap (λ gs. length gs) rest.cookies in omega (arith, e);
    objects = let e : length u.objects ≡ length t.objects = ap (λ os. length os) eo in omega (arith, e);
  };
  apart = r.apart s.apart;
})
    (record { apartments = s.even.apartments + (a + 1); even = gives-even _ a o (books_of t) (books_of u) gave (omega arith) (released_gives t u a o i gave rest r gave (λ l. refl)) (more-even s.even.apartments _ (books_of t) (omega arith) s.even.even) })
    (placed_now t u a o i gave s rest r free)
    (λ c x j h. let none : local_of t.proxies c x j ≡ 0 = s.owned c x j (rw eo at h) in r.local c x j ∙ omega (arith, none))

-- a direct place less gives nothing back
pub direct_given : (t u : Tables) (a o : ℕ) → IsHolders t → u.objects ≡ direct_less o t.objects → owns_of t.objects o a ≡ true → u.proxies ≡ t.proxies → books_of u ≡ books_of t
    → (n : ℕ) (places : ℕ → ℕ → ℕ) → a < n → Tells n places u → books_of u ≡ given_back n places (books_of t)
direct_given t u a o s eo own er same n places h tells = same ∙ gives_given n places (books_of t) (books_of t) a o h only (record {
  stub = λ x j. let e = none j in rw e (grind (arith, common_steps));
  proxy = λ d x j. elim (eqb d a && eqb x o) as (λ y. eqb d a && eqb x o ≡ y → (books_of t).proxy d x j ≡ cond (y && eqb (places a o) 0) 0 ((books_of t).proxy d x j)) [
    | true ↦ λ y.
        let ea : d ≡ a = eqb-true d a (grind (arith, common_steps, y)) in
        let ex : x ≡ o = eqb-true x o (grind (arith, common_steps, y)) in
        let zero_here : (books_of t).proxy d x j ≡ 0 = rw (ea, ex) (none j) in
        rw zero_here (grind (arith, common_steps))
    | false ↦ λ y. refl
  ] refl;
  packets = refl;
  cookies = refl;
  live = λ x. refl;
  arguments = refl;
  result = refl;
}) where
  none : (j : ℕ) → (books_of t).proxy a o j ≡ 0
  none j = s.placed a o j (record { none_held = λ k. s.owned a o k own })

  only : OnlyAt places (books_of t) a o
  only = record {
    other = λ c x j e z. s.placed c x j (record {
      none_held = λ k. elim (owns_of t.objects x c) as (λ y. owns_of t.objects x c ≡ y → local_of t.proxies c x k ≡ 0) [
        | true ↦ λ y. s.owned c x k y
        | false ↦ λ y.
            let empty : IsFree u.proxies c x = tells.none c x (ap (λ os. owns_of os x c) eo ∙ less_owns t.objects o x c ∙ y) (eqb-true _ _ z) in
            ap (λ rs. local_of rs c x k) (sym er) ∙ empty.none_held k
      ] refl;
    });
  }
