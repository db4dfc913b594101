-- The packets of calls.
use mathlib.Core.Path.{fun_ext}
use Rattle.std.proofs.Common.{◌≡◌, ℕ, zero, suc, Bool, true, false, cond, eqb, ◌+◌, ◌-◌, ◌<◌, ◌≤◌, List, [], ◌∷◌, ◌++◌, length, map, take, get_or, refl, sym, ap, ◌∙◌, arith, eqb-true, add-one}
use Rattle.std.proofs.lemmas.List.{take_more, map-append}
use Rattle.std.proofs.lemmas.Bool.{ne_eqb}
use Rattle.std.proofs.Math.Dec.{eqb-suc-suc}
use Rattle.std.specs.Prelude.{Option, slice_set, slice_index_or}
use Rattle.com_base.specs.declared.value.RefValue.{RefValue}
use Rattle.com_base.specs.declared.value.MarshalMode.TheVariants as marshal
use Rattle.com_refs_books.specs.Counting.{numbers_from}
use Rattle.com_refs_books.specs.Changes.{Books, Row, Change, changed, change, entered_rows, marshal_all, made_since, first_of, Marshals, Unmarshals, Makes, Takes, Asks, Drops, Registers, Revokes, ToProxy, ToPacket, Split, Join, Return, ToCookie, Withdraw, Same}
use Rattle.com_refs_holders.specs.Places.{SamePlaces}
use Rattle.com_refs_holders.specs.Tables.{Tables, books_of, owns_of}
use Rattle.com_model.specs.Lists.{put}
use Rattle.com_reference_moves.specs.declared.moves.Move.{Move}
use Rattle.com_refs_rows.specs.declared.calls.CallPackets.{CallPackets}
use Rattle.com_refs_rows.specs.Calls.{no_packets, call_at, with_result, arguments_of, number_of, arguments_in, result_in}
use Rattle.com_refs_rows.specs.Books.{books_with, Rowed, Gained, Marshalled, with_arguments, with_answer}
use Rattle.com_refs_rows.proofs.Cutting.{same_rows, same_all}
use Rattle.com_refs_rows.proofs.Gaining.{same_owners, entered_more, gained_none, gained_more}

-- ---- the rows of a list, one after another

abbrev pub marshal_row : ℕ → RefValue → Row
marshal_row a r = Marshals a marshal.Normal r.object r.iface

pub marshalled_none : (a : ℕ) (t : Tables) → Marshalled (marshal_all a []) t t
marshalled_none a t = record { books = refl; places = same_rows t t refl refl }

marshal_next : (a : ℕ) (rs : List RefValue) (k : ℕ) (d : RefValue) → k < length rs → marshal_all a (take (k + 1) rs) ≡ marshal_all a (take k rs) ++ marshal_row a (get_or rs k d) ∷ []
marshal_next a rs k d h = ap (λ (l : List RefValue). marshal_all a l) (take_more rs k d h) ∙ map-append (marshal_row a) (take k rs) (get_or rs k d ∷ [])

pub marshalled_next : (a : ℕ) (rs : List RefValue) (k : ℕ) (d : RefValue) (t v u : Tables) → k < length rs → Marshalled (marshal_all a (take k rs)) t v
    → Rowed v u (marshal_row a (get_or rs k d)) → SamePlaces v u → Marshalled (marshal_all a (take (k + 1) rs)) t u
marshalled_next a rs k d t v u h f row same = record {
  books = row
      ∙ ap (λ (o : ℕ → ℕ → Bool). entered_rows o (books_of v) (marshal_row a (get_or rs k d) ∷ [])) (same_owners t v f.places.owns)
      ∙ ap (λ (b : Books). entered_rows (owns_of t.objects) b (marshal_row a (get_or rs k d) ∷ [])) f.books
      ∙ entered_more (owns_of t.objects) (books_of t) (marshal_all a (take k rs)) (marshal_row a (get_or rs k d) ∷ [])
      ∙ ap (λ (l : List Row). entered_rows (owns_of t.objects) (books_of t) l) (sym (marshal_next a rs k d h));
  places = same_all t v u f.places same;
}

take_all : (rs : List RefValue) (k : ℕ) → length rs ≤ k → take k rs ≡ rs
take_all [] zero h = refl
take_all [] (suc k) h = refl
take_all (r ∷ rs) zero h = absurd (omega (arith, h))
take_all (r ∷ rs) (suc k) h = ap (λ (l : List RefValue). r ∷ l) (take_all rs k (omega (arith, h)))

pub marshalled_last : (a : ℕ) (rs : List RefValue) (k : ℕ) (t u : Tables) → length rs ≤ k → Marshalled (marshal_all a (take k rs)) t u → Marshalled (marshal_all a rs) t u
marshalled_last a rs k t u h f = record {
  books = f.books ∙ ap (λ (l : List RefValue). entered_rows (owns_of t.objects) (books_of t) (marshal_all a l)) (take_all rs k h);
  places = f.places;
}

-- ---- the packets of a call are read one after another

numbers_more : (n k : ℕ) → numbers_from n (k + 1) ≡ numbers_from n k ++ (n + k) ∷ []
numbers_more n zero = let e : n ≡ n + 0 = omega arith in ap (λ (m : ℕ). m ∷ []) e
numbers_more n (suc k) =
    let e : n + 1 + k ≡ n + suc k = omega arith in
    ap (λ (j : ℕ). numbers_from n j) (add-one (suc k)) ∙ ap (λ (l : List ℕ). n ∷ l) (ap (λ (j : ℕ). numbers_from (n + 1) j) (sym (add-one k)) ∙ numbers_more (n + 1) k ∙ ap (λ (m : ℕ). numbers_from (n + 1) k ++ m ∷ []) e)

abbrev pub read_rows : ℕ → List ℕ → List Row
read_rows a ps = map (λ p. Unmarshals a p) ps

pub read_none : (a n : ℕ) (t : Tables) (before : List Move) → Gained a (read_rows a (numbers_from n 0)) t t before before
read_none a n t before = gained_none a t before (same_rows t t refl refl)

pub read_next : (a n k : ℕ) (t v u : Tables) (xs ys zs : List Move) → Gained a (read_rows a (numbers_from n k)) t v xs ys → Gained a (Unmarshals a (n + k) ∷ []) v u ys zs → Gained a (read_rows a (numbers_from n (k + 1))) t u xs zs
read_next a n k t v u xs ys zs f g =
    let rows : read_rows a (numbers_from n k) ++ Unmarshals a (n + k) ∷ [] ≡ read_rows a (numbers_from n (k + 1)) =
    sym (ap (λ (l : List ℕ). read_rows a l) (numbers_more n k) ∙ map-append (λ p. Unmarshals a p) (numbers_from n k) ((n + k) ∷ [])) in
    gained_as a (read_rows a (numbers_from n k) ++ Unmarshals a (n + k) ∷ []) (read_rows a (numbers_from n (k + 1))) t u xs zs rows (gained_more a (read_rows a (numbers_from n k)) (Unmarshals a (n + k) ∷ []) t v u xs ys zs f g)
  where
    gained_as : (a : ℕ) (rs ss : List Row) (t u : Tables) (xs ys : List Move) → rs ≡ ss → Gained a rs t u xs ys → Gained a ss t u xs ys
    gained_as a rs ss t u xs ys e f = record {
      moves = f.moves;
      written = f.written;
      below = f.below;
      places = f.places;
      books = f.books ∙ ap (λ (l : List Row). entered_rows (owns_of t.objects) (books_of t) l) e;
    }

-- ---- the packets of calls stay beside

abbrev pub with_calls : Books → (ℕ → List ℕ) → (ℕ → Option ℕ) → Books
with_calls b x y = record b { arguments = x; result = y }

change_beside : (owned : ℕ → ℕ → Bool) (b : Books) (x : ℕ → List ℕ) (y : ℕ → Option ℕ) (r : Row) → change owned (with_calls b x y) r ≡ change owned b r
change_beside owned b x y (Makes a o i) = refl
change_beside owned b x y (Takes a o i) = refl
change_beside owned b x y (Asks a o i) = refl
change_beside owned b x y (Marshals a m o i) = refl
change_beside owned b x y (Unmarshals a zero) = refl
change_beside owned b x y (Unmarshals a (suc p)) = refl
change_beside owned b x y (Drops zero) = refl
change_beside owned b x y (Drops (suc p)) = refl
change_beside owned b x y (Registers o i) = refl
change_beside owned b x y (Revokes g) = refl

changed_beside : (b : Books) (x : ℕ → List ℕ) (y : ℕ → Option ℕ) (c : Change) → changed (with_calls b x y) c ≡ with_calls (changed b c) x y
changed_beside b x y (ToProxy a o i n) = refl
changed_beside b x y (ToPacket m o i n) = refl
changed_beside b x y (Split a o i n) = refl
changed_beside b x y (Join a zero) = refl
changed_beside b x y (Join a (suc p)) = refl
changed_beside b x y (Return zero) = refl
changed_beside b x y (Return (suc p)) = refl
changed_beside b x y (ToCookie o i n) = refl
changed_beside b x y (Withdraw zero) = refl
changed_beside b x y (Withdraw (suc g)) = refl
changed_beside b x y Same = refl

pub row_beside : (owned : ℕ → ℕ → Bool) (b : Books) (x : ℕ → List ℕ) (y : ℕ → Option ℕ) (r : Row) → changed (with_calls b x y) (change owned (with_calls b x y) r) ≡ with_calls (changed b (change owned b r)) x y
row_beside owned b x y r = ap (λ (c : Change). changed (with_calls b x y) c) (change_beside owned b x y r) ∙ changed_beside b x y (change owned b r)

pub rows_beside : (owned : ℕ → ℕ → Bool) (b : Books) (x : ℕ → List ℕ) (y : ℕ → Option ℕ) (rs : List Row) → entered_rows owned (with_calls b x y) rs ≡ with_calls (entered_rows owned b rs) x y
rows_beside owned b x y [] = refl
rows_beside owned b x y (r ∷ rs) = ap (λ (c : Books). entered_rows owned c rs) (row_beside owned b x y r) ∙ rows_beside owned (changed b (change owned b r)) x y rs

-- ---- a call more

pushed_at : (rows : List CallPackets) (row d : CallPackets) (k : ℕ) → slice_index_or (rows ++ row ∷ []) k d ≡ cond (eqb k (length rows)) row (slice_index_or rows k d)
pushed_at [] row d zero = refl
pushed_at [] row d (suc k) = sym (ap (λ (p : Bool). cond p row d) (ne_eqb (suc k) 0 (λ e. omega (arith, e))))
pushed_at (r ∷ rows) row d zero = sym (ap (λ (p : Bool). cond p row r) (ne_eqb 0 (suc (length rows)) (λ e. omega (arith, e))))
pushed_at (r ∷ rows) row d (suc k) = pushed_at rows row d k ∙ ap (λ (p : Bool). cond p row (slice_index_or rows k d)) (sym (eqb-suc-suc k (length rows)))

past_rows : (rows : List CallPackets) (d : CallPackets) (k : ℕ) → length rows ≤ k → slice_index_or rows k d ≡ d
past_rows [] d k h = refl
past_rows (r ∷ rows) d zero h = absurd (omega (arith, h))
past_rows (r ∷ rows) d (suc k) h = past_rows rows d k (omega (arith, h))

choose : {A B : Type 0} (f : A → B) (p : Bool) (x y : A) → f (cond p x y) ≡ cond p (f x) (f y)
choose f true x y = refl
choose f false x y = refl

pub arguments_pushed : (rows : List CallPackets) (row : CallPackets) → arguments_in (rows ++ row ∷ []) ≡ put (length rows + 1) (arguments_of row) (arguments_in rows)
arguments_pushed rows row = fun_ext at where
  at : (c : ℕ) → arguments_in (rows ++ row ∷ []) c ≡ put (length rows + 1) (arguments_of row) (arguments_in rows) c
  at zero = sym (ap (λ (p : Bool). cond p (arguments_of row) (arguments_in rows 0)) (ne_eqb 0 (length rows + 1) (λ e. omega (arith, e))))
  at (suc k) =
      let same : eqb k (length rows) ≡ eqb (suc k) (length rows + 1) = sym (ap (λ (j : ℕ). eqb (suc k) j) (add-one (length rows)) ∙ eqb-suc-suc k (length rows)) in
      ap arguments_of (pushed_at rows row no_packets k) ∙ choose arguments_of (eqb k (length rows)) row (slice_index_or rows k no_packets)
      ∙ ap (λ (p : Bool). cond p (arguments_of row) (arguments_of (slice_index_or rows k no_packets))) same

pub result_pushed : (rows : List CallPackets) (row : CallPackets) → row.result ≡ 0 → result_in (rows ++ row ∷ []) ≡ result_in rows
result_pushed rows row none = fun_ext at where
  at : (c : ℕ) → result_in (rows ++ row ∷ []) c ≡ result_in rows c
  at zero = refl
  at (suc k) = ap (λ (r : CallPackets). number_of r.result) (pushed_at rows row no_packets k) ∙ elim (eqb k (length rows)) as (λ p. eqb k (length rows) ≡ p → number_of (cond p row (slice_index_or rows k no_packets)).result ≡ number_of (slice_index_or rows k no_packets).result) [
    | true ↦ λ e. ap number_of none ∙ sym (ap (λ (r : CallPackets). number_of r.result) (past_rows rows no_packets k (let same : k ≡ length rows = eqb-true k (length rows) e in omega (arith, same))))
    | false ↦ λ e. refl
  ] refl

-- ---- the result of a call

set_at : (rows : List CallPackets) (v d : CallPackets) (j k : ℕ) → j < length rows → slice_index_or (slice_set rows j v) k d ≡ cond (eqb k j) v (slice_index_or rows k d)
set_at [] v d j k h = absurd (omega (arith, h))
set_at (r ∷ rows) v d zero zero h = refl
set_at (r ∷ rows) v d zero (suc k) h = sym (ap (λ (p : Bool). cond p v (slice_index_or rows k d)) (ne_eqb (suc k) 0 (λ e. omega (arith, e))))
set_at (r ∷ rows) v d (suc j) zero h = sym (ap (λ (p : Bool). cond p v r) (ne_eqb 0 (suc j) (λ e. omega (arith, e))))
set_at (r ∷ rows) v d (suc j) (suc k) h = set_at rows v d j k (omega (arith, h)) ∙ ap (λ (p : Bool). cond p v (slice_index_or rows k d)) (sym (eqb-suc-suc k j))

answered : (rows : List CallPackets) (j k p : ℕ) → j < length rows → call_at (with_result (suc j) p rows) (suc k) ≡ cond (eqb k j) (record (slice_index_or rows j no_packets) { result = p }) (slice_index_or rows k no_packets)
answered rows j k p h = set_at rows (record (slice_index_or rows j no_packets) { result = p }) no_packets j k h

pub arguments_answered : (rows : List CallPackets) (c p : ℕ) → 1 ≤ c → c ≤ length rows → arguments_in (with_result c p rows) ≡ arguments_in rows
arguments_answered rows zero p low high = absurd (omega (arith, low))
arguments_answered rows (suc j) p low high = fun_ext at where
  at : (c : ℕ) → arguments_in (with_result (suc j) p rows) c ≡ arguments_in rows c
  at zero = refl
  at (suc k) = ap arguments_of (answered rows j k p (omega (arith, high))) ∙ elim (eqb k j) as (λ q. eqb k j ≡ q → arguments_of (cond q (record (slice_index_or rows j no_packets) { result = p }) (slice_index_or rows k no_packets)) ≡ arguments_of (slice_index_or rows k no_packets)) [
    | true ↦ λ e. ap (λ (i : ℕ). arguments_of (slice_index_or rows i no_packets)) (sym (eqb-true k j e))
    | false ↦ λ e. refl
  ] refl

pub result_answered : (rows : List CallPackets) (c p : ℕ) → 1 ≤ c → c ≤ length rows → result_in (with_result c p rows) ≡ put c (number_of p) (result_in rows)
result_answered rows zero p low high = absurd (omega (arith, low))
result_answered rows (suc j) p low high = fun_ext at where
  at : (c : ℕ) → result_in (with_result (suc j) p rows) c ≡ put (suc j) (number_of p) (result_in rows) c
  at zero = sym (ap (λ (q : Bool). cond q (number_of p) (result_in rows 0)) (ne_eqb 0 (suc j) (λ e. omega (arith, e))))
  at (suc k) =
      let same : eqb k j ≡ eqb (suc k) (suc j) = sym (eqb-suc-suc k j) in
      ap (λ (r : CallPackets). number_of r.result) (answered rows j k p (omega (arith, high)))
      ∙ choose (λ (r : CallPackets). number_of r.result) (eqb k j) (record (slice_index_or rows j no_packets) { result = p }) (slice_index_or rows k no_packets)
      ∙ ap (λ (q : Bool). cond q (number_of p) (number_of (slice_index_or rows k no_packets).result)) same

-- ---- an Out and a Leave

since : (t u : Tables) (rows : List Row) → Marshalled rows t u → length (books_of u).packets ≡ length (entered_rows (owns_of t.objects) (books_of t) rows).packets
since t u rows m = ap (λ (b : Books). length b.packets) m.books

pub issued_books : (t u : Tables) (calls : List CallPackets) (row : CallPackets) (rows : List Row) (c : ℕ) → Marshalled rows t u → c ≡ length calls + 1 → row.result ≡ 0
    → arguments_of row ≡ made_since (books_of t) (books_of u)
    → books_with u (calls ++ row ∷ []) ≡ with_arguments c (books_with t calls) (entered_rows (owns_of t.objects) (books_with t calls) rows)
issued_books t u calls row rows c m number none made =
    ap (λ (x : ℕ → List ℕ). with_calls (books_of u) x (result_in (calls ++ row ∷ []))) (arguments_pushed calls row)
    ∙ ap (λ (y : ℕ → Option ℕ). with_calls (books_of u) (put (length calls + 1) (arguments_of row) (arguments_in calls)) y) (result_pushed calls row none)
    ∙ ap (λ (k : ℕ). with_calls (books_of u) (put k (arguments_of row) (arguments_in calls)) (result_in calls)) (sym number)
    ∙ ap (λ (l : List ℕ). with_calls (books_of u) (put c l (arguments_in calls)) (result_in calls)) made
    ∙ ap (λ (b : Books). with_calls b (put c (made_since (books_of t) b) (arguments_in calls)) (result_in calls)) m.books
    ∙ sym (ap (λ (b : Books). with_arguments c (books_with t calls) b) (rows_beside (owns_of t.objects) (books_of t) (arguments_in calls) (result_in calls) rows))

pub answered_books : (t u : Tables) (calls : List CallPackets) (p : ℕ) (rows : List Row) (c : ℕ) → Marshalled rows t u → 1 ≤ c → c ≤ length calls
    → number_of p ≡ first_of (made_since (books_of t) (books_of u))
    → books_with u (with_result c p calls) ≡ with_answer c (books_with t calls) (entered_rows (owns_of t.objects) (books_with t calls) rows)
answered_books t u calls p rows c m low high made =
    ap (λ (x : ℕ → List ℕ). with_calls (books_of u) x (result_in (with_result c p calls))) (arguments_answered calls c p low high)
    ∙ ap (λ (y : ℕ → Option ℕ). with_calls (books_of u) (arguments_in calls) y) (result_answered calls c p low high)
    ∙ ap (λ (n : Option ℕ). with_calls (books_of u) (arguments_in calls) (put c n (result_in calls))) made
    ∙ ap (λ (b : Books). with_calls b (arguments_in calls) (put c (first_of (made_since (books_of t) b)) (result_in calls))) m.books
    ∙ sym (ap (λ (b : Books). with_answer c (books_with t calls) b) (rows_beside (owns_of t.objects) (books_of t) (arguments_in calls) (result_in calls) rows))

-- The number that is kept of a result.
first_of_some : (n k : ℕ) → first_of (numbers_from (n + 1) (suc k)) ≡ number_of (n + 1)
first_of_some n k = let e : n + 1 ≡ suc n = add-one n in rw e refl

pub number_kept : (b : Books) (after : Books) (first count p : ℕ) → first ≡ length b.packets + 1 → count ≡ length after.packets - length b.packets → (0 < count → p ≡ first) → (count ≡ 0 → p ≡ 0)
    → number_of p ≡ first_of (made_since b after)
number_kept b after first zero p ef ec some none = ap number_of (none refl) ∙ ap (λ (k : ℕ). first_of (numbers_from (length b.packets + 1) k)) ec
number_kept b after first (suc k) p ef ec some none = ap number_of (some (omega arith) ∙ ef) ∙ sym (first_of_some (length b.packets) k) ∙ ap (λ (j : ℕ). first_of (numbers_from (length b.packets + 1) j)) ec

-- ---- how many calls there are

pub pushed_length : (rows : List CallPackets) (row : CallPackets) → length (rows ++ row ∷ []) ≡ length rows + 1
pushed_length [] row = refl
pushed_length (r ∷ rows) row = omega (arith, pushed_length rows row)

set-length : (rows : List CallPackets) (k : ℕ) (row : CallPackets) → length (slice_set rows k row) ≡ length rows
set-length [] k row = refl
set-length (r ∷ rows) zero row = refl
set-length (r ∷ rows) (suc k) row = omega (arith, set-length rows k row)

pub answered_length : (rows : List CallPackets) (c p : ℕ) → length (with_result c p rows) ≡ length rows
answered_length rows zero p = refl
answered_length rows (suc k) p = set-length rows k (record (call_at rows (suc k)) { result = p })

pub last_set : (xs : List CallPackets) (y z : CallPackets) (k : ℕ) → k ≡ length xs → slice_set (xs ++ y ∷ []) k z ≡ xs ++ z ∷ []
last_set [] y z zero e = refl
last_set [] y z (suc k) e = absurd (omega (arith, e))
last_set (x ∷ xs) y z zero e = absurd (omega (arith, e))
last_set (x ∷ xs) y z (suc k) e = ap (λ (l : List CallPackets). x ∷ l) (last_set xs y z k (omega (arith, e)))
