-- The numbers of a report of a ledger are those of the state that it is tied to.
use Rattle.std.proofs.Common.{◌≡◌, ℕ, refl, sym, ap, ◌∙◌, arith, ◌+◌, ◌<◌, ◌≤◌, Bool, true, false, ◌||◌, ◌&&◌, ◌==◌, nat_lt, List, [], ◌∷◌, length, slice_index_or, cond, eqb-true}
use Rattle.std.proofs.lemmas.Bool.{ltb-true, ltb-false}
use Rattle.std.proofs.lemmas.List.{get_or_past}
use Rattle.std.specs.Prelude.{sum_by}
use Rattle.com_refs_books.specs.Changes.{Books, in_normal, in_table, in_cookie}
use Rattle.com_refs_books.specs.Counting.{sum_below}
use Rattle.com_refs_books.proofs.Sums.{sum-more, sum-same}
use Rattle.com_refs_holders.specs.Tables.{books_of, direct_in}
use Rattle.com_model.specs.declared.deeds.Entry.{Entry}
use Rattle.com_model.specs.declared.scenario.Scenario.{Scenario}
use Rattle.com_model.specs.Ends.{over_interfaces}
use Rattle.com_model.specs.Lists.{tabulated}
use Rattle.com_model.specs.Places.{direct_places}
use Rattle.com_model.specs.State.{BookTables, State, StandsFor, book_tables, books_in, ground_in, next_sta_in, objects_in, scene_in}
use Rattle.com_model.proofs.Tabled.{length-tabulated, within-tabulated}
use Rattle.com_refs.specs.Numbers.{Within}
use Rattle.com_stub.specs.declared.counters.CounterRow.{CounterRow}
use Rattle.com_stub.specs.CounterRows.{has_counter}
use Rattle.com_refs_rows.specs.Books.{Held}
use Rattle.com_ledger.specs.Ties.{Ties, places_at}

-- ---- interfaces

-- A number above all interfaces that have a counter.
abbrev above : List CounterRow → ℕ
above [] = 0
above (r ∷ rs) = r.iface + 1 + above rs

either : (a b c : Bool) → ((a && b) || c) ≡ true → (b ≡ true → ⊥) → c ≡ true
either true true c e n = absurd (n refl)
either true false c e n = e
either false b c e n = e

has-either : (r : CounterRow) (rows : List CounterRow) (o i m : ℕ) → has_counter (r ∷ rows) o i ≡ true → (has_counter rows o i ≡ true → i < m + above rows) → i < m + above (r ∷ rows)
has-either r rows o i m e rest = by-test (r.iface == i) refl
  where
    by-test : (t : Bool) → (r.iface == i) ≡ t → i < m + above (r ∷ rows)
    by-test true q = let z : r.iface ≡ i = eqb-true r.iface i q in omega (arith, z)
    by-test false q =
        let more : i < m + above rows = rest (either (r.object == o) (r.iface == i) (has_counter rows o i) e (λ p. cc)) in
        omega (arith, more)

has-below : (rows : List CounterRow) (o i m : ℕ) → has_counter rows o i ≡ true → i < m + above rows
has-below [] o i m e = cc
has-below (r ∷ rows) o i m e = has-either r rows o i m e (has-below rows o i m)

within : (s : Scenario) (st : State) (w : Held) (m : ℕ) → Ties s st w → Within (next_sta_in st) (m + above w.tables.counters) w.tables
within s st w m t = record {
  interfaces = λ o i e. has-below w.tables.counters o i m e;
  apartments = λ a o l. t.counts.past a o l;
}

-- ---- rows of tables

past-row : (n m : ℕ) (f : ℕ → ℕ → ℕ) (o k : ℕ) → m ≤ k → slice_index_or (slice_index_or (tabulated n (λ j. tabulated m (f j))) o []) k 0 ≡ 0
past-row n m f o k p = by-size (nat_lt o n) refl
  where
    by-size : (t : Bool) → nat_lt o n ≡ t → slice_index_or (slice_index_or (tabulated n (λ j. tabulated m (f j))) o []) k 0 ≡ 0
    by-size true h =
        let size : length (tabulated m (f o)) ≡ m = length-tabulated m (f o) in
        ap (λ (r : List ℕ). slice_index_or r k 0) (within-tabulated n (λ j. tabulated m (f j)) o [] (ltb-true o n h)) ∙ get_or_past (tabulated m (f o)) k 0 (omega (arith, size, p))
    by-size false h =
        let z : n ≤ o = ltb-false o n h in
        let size : length (tabulated n (λ j. tabulated m (f j))) ≡ n = length-tabulated n (λ j. tabulated m (f j)) in
        ap (λ (r : List ℕ). slice_index_or r k 0) (get_or_past (tabulated n (λ j. tabulated m (f j))) o [] (omega (arith, z, size))) ∙ get_or_past [] k 0 (omega arith)

past-deep : (a n m : ℕ) (f : ℕ → ℕ → ℕ → ℕ) (c o k : ℕ) → m ≤ k → slice_index_or (slice_index_or (slice_index_or (tabulated a (λ i. tabulated n (λ j. tabulated m (f i j)))) c []) o []) k 0 ≡ 0
past-deep a n m f c o k p = by-size (nat_lt c a) refl
  where
    by-size : (t : Bool) → nat_lt c a ≡ t → slice_index_or (slice_index_or (slice_index_or (tabulated a (λ i. tabulated n (λ j. tabulated m (f i j)))) c []) o []) k 0 ≡ 0
    by-size true h =
        ap (λ (y : List (List ℕ)). slice_index_or (slice_index_or y o []) k 0) (within-tabulated a (λ i. tabulated n (λ j. tabulated m (f i j))) c [] (ltb-true c a h)) ∙ past-row n m (f c) o k p
    by-size false h =
        let z : a ≤ c = ltb-false c a h in
        let size : length (tabulated a (λ i. tabulated n (λ j. tabulated m (f i j)))) ≡ a = length-tabulated a (λ i. tabulated n (λ j. tabulated m (f i j))) in
        ap (λ (y : List (List ℕ)). slice_index_or (slice_index_or y o []) k 0) (get_or_past (tabulated a (λ i. tabulated n (λ j. tabulated m (f i j)))) c [] (omega (arith, z, size)))
        ∙ ap (λ (y : List ℕ). slice_index_or y k 0) (get_or_past [] o [] (omega arith)) ∙ get_or_past [] k 0 (omega arith)

-- The books of a state have nothing of an interface that the scenario has not.
stub-past : (s : Scenario) (st : State) (o i : ℕ) → book_tables s st (books_in st) ≡ st.books → length s.classes.interfaces ≤ i → (books_in st).stub o i ≡ 0
stub-past s st o i e p =
    ap (λ (t : BookTables). slice_index_or (slice_index_or t.stub o []) i 0) (sym e)
    ∙ past-row (objects_in st + 1) (length s.classes.interfaces) (books_in st).stub o i p

proxy-past : (s : Scenario) (st : State) (a o i : ℕ) → book_tables s st (books_in st) ≡ st.books → length s.classes.interfaces ≤ i → (books_in st).proxy a o i ≡ 0
proxy-past s st a o i e p =
    ap (λ (t : BookTables). slice_index_or (slice_index_or (slice_index_or t.proxy a []) o []) i 0) (sym e)
    ∙ past-deep (next_sta_in st) (objects_in st + 1) (length s.classes.interfaces) (books_in st).proxy a o i p

-- ---- the numbers

pub direct_counted : (s : Scenario) (st : State) (w : Held) (o : ℕ) → Ties s st w → direct_in w.tables o ≡ direct_places s (ground_in s st) (scene_in st) o
direct_counted s st w o t =
    sym (t.counts.direct o) ∙ (λ i. sum_below (next_sta_in st) (λ a. cond (t.objects.owns o a i) (places_at s st a o) 0))

pub stub_counted : (s : Scenario) (st : State) (h : List Entry) (w : Held) (o x : ℕ) → StandsFor s st h → Ties s st w
    → ((n m : ℕ) → Within n m w.tables → x ≡ sum_below m ((books_of w.tables).stub o)) → x ≡ over_interfaces s ((books_in st).stub o)
stub_counted s st h w o x p t f =
    let m : ℕ = length s.classes.interfaces in
    f (next_sta_in st) (m + above w.tables.counters) (within s st w m t)
    ∙ ap (λ (b : Books). sum_below (m + above w.tables.counters) (b.stub o)) t.books
    ∙ sum-more m (above w.tables.counters) ((books_in st).stub o) (λ i q. stub-past s st o i p.rows.1 q)

pub proxies_counted : (s : Scenario) (st : State) (h : List Entry) (w : Held) (o x : ℕ) → StandsFor s st h → Ties s st w
    → ((n m : ℕ) → Within n m w.tables → x ≡ sum_below n (λ a. sum_below m ((books_of w.tables).proxy a o)))
    → x ≡ sum_below (next_sta_in st) (λ a. over_interfaces s ((books_in st).proxy a o))
proxies_counted s st h w o x p t f =
    let m : ℕ = length s.classes.interfaces in
    let n : ℕ = next_sta_in st in
    f n (m + above w.tables.counters) (within s st w m t)
    ∙ ap (λ (b : Books). sum_below n (λ a. sum_below (m + above w.tables.counters) (b.proxy a o))) t.books
    ∙ sum-same n (λ a. sum_below (m + above w.tables.counters) ((books_in st).proxy a o)) (λ a. over_interfaces s ((books_in st).proxy a o))
    (λ a l. sum-more m (above w.tables.counters) ((books_in st).proxy a o) (λ i q. proxy-past s st a o i p.rows.1 q))

pub packets_counted : (s : Scenario) (st : State) (w : Held) (o : ℕ) → Ties s st w → sum_by (in_normal o) (books_of w.tables).packets ≡ sum_by (in_normal o) (books_in st).packets
packets_counted s st w o t = ap (λ (b : Books). sum_by (in_normal o) b.packets) t.books

pub tables_counted : (s : Scenario) (st : State) (w : Held) (o x : ℕ) → Ties s st w
    → ((n m : ℕ) → Within n m w.tables → x ≡ sum_by (in_table o) (books_of w.tables).packets + sum_by (in_cookie o) (books_of w.tables).cookies)
    → x ≡ sum_by (in_table o) (books_in st).packets + sum_by (in_cookie o) (books_in st).cookies
tables_counted s st w o x t f =
    f (next_sta_in st) (0 + above w.tables.counters) (within s st w 0 t)
    ∙ ap (λ (b : Books). sum_by (in_table o) b.packets + sum_by (in_cookie o) b.cookies) t.books
