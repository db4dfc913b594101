-- The list of the calls that wait for a time, and the least of these times.
use Rattle.std.proofs.Common.{◌≡◌, refl, sym, ◌∙◌, ap, ap₂, arith, ℕ, zero, suc, ◌+◌, ◌<◌, ◌≤◌, Bool, true, false, not, cond, eqb, nat_lt, min, ◌==◌, ◌&&◌, ◌||◌, List, [], ◌∷◌, ◌++◌, fold, filter, filter_map, length, Option, Some, None, is_some, slice_get, slice_index_or, map, eqb-true}
use Rattle.std.specs.List.{IsDistinct, AllByRecursion, list_any, cons_option}
use Rattle.std.specs.Cmp.{nat_eq_equiv}
use Rattle.std.proofs.lemmas.Grind.{common_steps}
use Rattle.std.proofs.lemmas.Bool.Decides.{nat_tests}
use Rattle.std.proofs.lemmas.List.{length-map}
use Rattle.std.proofs.lemmas.Bool.{ltb-true, ltb-false}
use Rattle.std.proofs.lemmas.List.Folds.{list_any-append}
use Rattle.std.proofs.lemmas.Map.Keys.{IsDistinct-push}
use Rattle.std.proofs.lemmas.Map.Steps.{length-le_from_distinct_below}
use Rattle.com_model.specs.declared.keeps.Ending.{Ending}
use Rattle.com_model.specs.declared.keeps.Phase.{Phase}
use Rattle.com_model.specs.declared.keeps.Phase.TheVariants.{Unposted, Queued, Judged, Delayed, GivenUp}
use Rattle.com_model.specs.Lists.{or_else, lesser, least, one_to, number_or_zero}
use Rattle.com_model.specs.Waiting.{is_queued}
use Rattle.com_inbox.specs.Queues.{Queues}
use Rattle.com_calls.specs.Rows.{RowView, changed_in, changed_row, row_at, phased}
use Rattle.com_calls.specs.Waits.{wait_until, wait_of, next_wait, sooner_of}
use Rattle.com_calls.specs.Inside.{kept_of, is_delayed, row_delayed, row_wait, settles, stays, IsCovered}
use Rattle.com_calls.proofs.Inboxes.{length-changed, length-grown, apart}

-- ---- the list

has : ℕ → List ℕ → Bool
has q xs = list_any (eqb q) xs

self-same : (x : ℕ) → eqb x x ≡ true
self-same x = grind (arith, nat_tests)

-- What stays of a list.
pub any-filter : (q : ℕ) (p : ℕ → Bool) (xs : List ℕ) → list_any (eqb q) xs ≡ true → p q ≡ true → list_any (eqb q) (filter p xs) ≡ true
any-filter q p [] h k = h
any-filter q p (x ∷ xs) h k = elim (eqb q x) as (λ b. eqb q x ≡ b → (b || list_any (eqb q) xs) ≡ true → list_any (eqb q) (cond (p x) (x ∷ filter p xs) (filter p xs)) ≡ true) [
  | true ↦ λ e i. rw (ap p (sym (eqb-true q x e)) ∙ k, e) refl
  | false ↦ λ e i. elim (p x) as (λ t. list_any (eqb q) (cond t (x ∷ filter p xs) (filter p xs)) ≡ true) [
    | true ↦ rw e (any-filter q p xs i k)
    | false ↦ any-filter q p xs i k
  ]
] refl h

any-of-filter : (q : ℕ) (p : ℕ → Bool) (xs : List ℕ) → list_any (eqb q) (filter p xs) ≡ true → list_any (eqb q) xs ≡ true
any-of-filter q p [] h = h
any-of-filter q p (x ∷ xs) h = elim (p x) as (λ t. list_any (eqb q) (cond t (x ∷ filter p xs) (filter p xs)) ≡ true → (eqb q x || list_any (eqb q) xs) ≡ true) [
  | true ↦ λ i. either (eqb q x) (list_any (eqb q) (filter p xs)) (list_any (eqb q) xs) i (any-of-filter q p xs)
  | false ↦ λ i. later (eqb q x) (list_any (eqb q) xs) (any-of-filter q p xs i)
] h
  where
    either : (a b d : Bool) → (a || b) ≡ true → (b ≡ true → d ≡ true) → (a || d) ≡ true
    either true b d i k = refl
    either false b d i k = k i

    later : (a d : Bool) → d ≡ true → (a || d) ≡ true
    later true d k = refl
    later false d k = k

all-filter : (P : ℕ → Type 0) (p : ℕ → Bool) (xs : List ℕ) → AllByRecursion P xs → AllByRecursion P (filter p xs)
all-filter P p [] h = h
all-filter P p (x ∷ xs) h = elim (p x) as (λ t. AllByRecursion P (cond t (x ∷ filter p xs) (filter p xs))) [
  | true ↦ (h.0, all-filter P p xs h.1)
  | false ↦ all-filter P p xs h.1
]

distinct-filter : (p : ℕ → Bool) (xs : List ℕ) → IsDistinct eqb xs → IsDistinct eqb (filter p xs)
unfolding IsDistinct
distinct-filter p [] h = h
distinct-filter p (x ∷ xs) h = elim (p x) as (λ t. IsDistinct eqb (cond t (x ∷ filter p xs) (filter p xs))) [
  | true ↦ (all-filter (λ y. eqb x y ≡ false) p xs h.0, distinct-filter p xs h.1)
  | false ↦ distinct-filter p xs h.1
]

none-left : (c : ℕ) (rows : List RowView) (xs : List ℕ) → list_any (eqb c) (filter (stays rows c) xs) ≡ false
none-left c rows [] = refl
none-left c rows (x ∷ xs) = elim (x == c) as (λ t. (x == c) ≡ t → list_any (eqb c) (cond (not t && row_delayed (row_at rows x)) (x ∷ filter (stays rows c) xs) (filter (stays rows c) xs)) ≡ false) [
  | true ↦ λ e. none-left c rows xs
  | false ↦ λ e. elim (row_delayed (row_at rows x)) as (λ t. list_any (eqb c) (cond t (x ∷ filter (stays rows c) xs) (filter (stays rows c) xs)) ≡ false) [
    | true ↦ let z : eqb c x ≡ false = grind (arith, nat_tests, e) in rw z (none-left c rows xs)
    | false ↦ none-left c rows xs
  ]
] refl

-- ---- rows

delayed-in : (f : RowView → RowView) (k : ℕ) (rows : List RowView) (j : ℕ) → ((r : RowView) → is_delayed (f r).phase (f r).ending ≡ true → is_delayed r.phase r.ending ≡ true) → row_delayed (slice_get (changed_in f k rows) j) ≡ true → row_delayed (slice_get rows j) ≡ true
delayed-in f k [] j p h = h
delayed-in f zero (r ∷ rs) zero p h = p r h
delayed-in f zero (r ∷ rs) (suc j) p h = h
delayed-in f (suc k) (r ∷ rs) zero p h = h
delayed-in f (suc k) (r ∷ rs) (suc j) p h = delayed-in f k rs j p h

delayed-changed : (f : RowView → RowView) (c : ℕ) (rows : List RowView) (x : ℕ) → ((r : RowView) → is_delayed (f r).phase (f r).ending ≡ true → is_delayed r.phase r.ending ≡ true) → row_delayed (row_at (changed_row f c rows) x) ≡ true → row_delayed (row_at rows x) ≡ true
delayed-changed f zero rows x p h = h
delayed-changed f (suc k) rows zero p h = h
delayed-changed f (suc k) rows (suc j) p h = delayed-in f k rows j p h

other-in : (f : RowView → RowView) (k : ℕ) (rows : List RowView) (j : ℕ) → (j ≡ k → ⊥) → slice_get (changed_in f k rows) j ≡ slice_get rows j
other-in f k [] j p = refl
other-in f zero (r ∷ rs) zero p = absurd (p refl)
other-in f zero (r ∷ rs) (suc j) p = refl
other-in f (suc k) (r ∷ rs) zero p = refl
other-in f (suc k) (r ∷ rs) (suc j) p = other-in f k rs j (λ q. p (ap (λ (n : ℕ). suc n) q))

pub other-row : (f : RowView → RowView) (c : ℕ) (rows : List RowView) (x : ℕ) → (x ≡ c → ⊥) → row_at (changed_row f c rows) x ≡ row_at rows x
other-row f zero rows x p = refl
other-row f (suc k) rows zero p = refl
other-row f (suc k) rows (suc j) p = other-in f k rows j (λ q. p (ap (λ (n : ℕ). suc n) q))

grown-in : (rows : List RowView) (r : RowView) (k : ℕ) → is_delayed r.phase r.ending ≡ false → row_delayed (slice_get (rows ++ r ∷ []) k) ≡ row_delayed (slice_get rows k)
grown-in [] r zero e = e
grown-in [] r (suc k) e = refl
grown-in (x ∷ xs) r zero e = refl
grown-in (x ∷ xs) r (suc k) e = grown-in xs r k e

grown-row : (rows : List RowView) (r : RowView) (c : ℕ) → is_delayed r.phase r.ending ≡ false → row_delayed (row_at (rows ++ r ∷ []) c) ≡ row_delayed (row_at rows c)
grown-row rows r zero e = refl
grown-row rows r (suc k) e = grown-in rows r k e

inside-in : (rows : List RowView) (k : ℕ) → row_delayed (slice_get rows k) ≡ true → k < length rows
inside-in [] k h = absurd cc
inside-in (r ∷ rs) zero h = omega arith
inside-in (r ∷ rs) (suc k) h = let z : k < length rs = inside-in rs k h in omega (arith, z)

inside : (rows : List RowView) (c : ℕ) → row_delayed (row_at rows c) ≡ true → (1 ≤ c) × (c ≤ length rows)
inside rows zero h = absurd cc
inside rows (suc k) h = let z : k < length rows = inside-in rows k h in (omega (arith, z), omega (arith, z))

-- ---- what changes keep

pub covered_none : (room capacity : ℕ) → room < capacity → IsCovered [] [] capacity room
unfolding IsDistinct
covered_none room capacity h = record {
  distinct = tt;
  known = λ q e. absurd cc;
  covers = λ c e. nothing c e;
  spare = h;
}
  where
    nothing : (c : ℕ) → row_delayed (row_at [] c) ≡ true → false ≡ true
    nothing zero e = e
    nothing (suc k) e = e

pub covered_fewer : (f : RowView → RowView) (c : ℕ) (rows : List RowView) (delayed : List ℕ) (capacity room : ℕ) → ((r : RowView) → is_delayed (f r).phase (f r).ending ≡ true → is_delayed r.phase r.ending ≡ true) → IsCovered rows delayed capacity room → IsCovered (changed_row f c rows) delayed capacity room
covered_fewer f c rows delayed capacity room fewer p = record {
  distinct = p.distinct;
  known = λ q h. let z : q < length rows + 1 = p.known q h in let n : length (changed_row f c rows) ≡ length rows = length-changed f c rows in omega (arith, z, n);
  covers = λ x h. p.covers x (delayed-changed f c rows x fewer h);
  spare = p.spare;
}

pub covered_grown : (r : RowView) (rows : List RowView) (delayed : List ℕ) (capacity room : ℕ) → is_delayed r.phase r.ending ≡ false → IsCovered rows delayed capacity room → IsCovered (rows ++ r ∷ []) delayed capacity room
covered_grown r rows delayed capacity room e p = record {
  distinct = p.distinct;
  known = λ q h. let z : q < length rows + 1 = p.known q h in let n : length (rows ++ r ∷ []) ≡ length rows + 1 = length-grown rows r in omega (arith, z, n);
  covers = λ x h. p.covers x (sym (grown-row rows r x e) ∙ h);
  spare = p.spare;
}

pub covered_roomier : (rows : List RowView) (delayed : List ℕ) (capacity room more more_room : ℕ) → more_room < more → IsCovered rows delayed capacity room → IsCovered rows delayed more more_room
covered_roomier rows delayed capacity room more more_room h p = record {
  distinct = p.distinct;
  known = p.known;
  covers = p.covers;
  spare = h;
}

-- A call waits for a time from now on.
pub covered_delayed : (x : Phase) (c : ℕ) (rows : List RowView) (delayed : List ℕ) (capacity room : ℕ) → c ≤ length rows → IsCovered rows delayed capacity room → IsCovered (changed_row (phased x) c rows) (filter (stays rows c) delayed ++ c ∷ []) capacity room
covered_delayed x c rows delayed capacity room high p = record {
  distinct = IsDistinct-push nat_eq_equiv (filter (stays rows c) delayed) c (distinct-filter (stays rows c) delayed p.distinct) (none-left c rows delayed);
  known = λ q h. in-both q (list_any-append (eqb q) (filter (stays rows c) delayed) (c ∷ [])) h;
  covers = λ y h. list_any-append (eqb y) (filter (stays rows c) delayed) (c ∷ []) ∙ which y (y == c) refl h;
  spare = p.spare;
}
  where
    last-one : (q : ℕ) → (eqb q c || false) ≡ true → q ≡ c
    last-one q h = let e : eqb q c ≡ true = grind (arith, common_steps, h) in eqb-true q c e

    in-both : (q : ℕ) → list_any (eqb q) (filter (stays rows c) delayed ++ c ∷ []) ≡ (list_any (eqb q) (filter (stays rows c) delayed) || (eqb q c || false)) → list_any (eqb q) (filter (stays rows c) delayed ++ c ∷ []) ≡ true → q < length (changed_row (phased x) c rows) + 1
    in-both q e h = elim (list_any (eqb q) (filter (stays rows c) delayed)) as (λ b. list_any (eqb q) (filter (stays rows c) delayed) ≡ b → (b || (eqb q c || false)) ≡ true → q < length (changed_row (phased x) c rows) + 1) [
      | true ↦ λ i k. let z : q < length rows + 1 = p.known q (any-of-filter q (stays rows c) delayed i) in let n : length (changed_row (phased x) c rows) ≡ length rows = length-changed (phased x) c rows in omega (arith, z, n)
      | false ↦ λ i k. let z : q ≡ c = last-one q k in let n : length (changed_row (phased x) c rows) ≡ length rows = length-changed (phased x) c rows in omega (arith, z, n, high)
    ] refl (sym e ∙ h)

    which : (y : ℕ) (b : Bool) → (y == c) ≡ b → row_delayed (row_at (changed_row (phased x) c rows) y) ≡ true → (list_any (eqb y) (filter (stays rows c) delayed) || (eqb y c || false)) ≡ true
    which y true e h = let z : eqb y c ≡ true = e in or-last (list_any (eqb y) (filter (stays rows c) delayed)) (eqb y c) z
      where
        or-last : (a d : Bool) → d ≡ true → (a || (d || false)) ≡ true
        or-last true d k = refl
        or-last false true k = refl
        or-last false false k = k
    which y false e h =
        let same : row_at (changed_row (phased x) c rows) y ≡ row_at rows y = other-row (phased x) c rows y (λ q. apart y c q e) in
        let there : row_delayed (row_at rows y) ≡ true = ap (λ (r : Option RowView). row_delayed r) (sym same) ∙ h in
        let kept : stays rows c y ≡ true = ap₂ (λ (a b : Bool). not a && b) e there in
        or-first (list_any (eqb y) (filter (stays rows c) delayed)) (eqb y c) (any-filter y (stays rows c) delayed (p.covers y there) kept)
      where
        or-first : (a d : Bool) → a ≡ true → (a || (d || false)) ≡ true
        or-first true d k = refl
        or-first false d k = absurd cc

-- There is a place for it.
pub delayed_fits : (c : ℕ) (rows : List RowView) (delayed : List ℕ) (capacity room : ℕ) → c ≤ length rows → length rows ≤ room → IsCovered rows delayed capacity room → length (filter (stays rows c) delayed) < capacity
delayed_fits c rows delayed capacity room high within p =
    let q : IsCovered (changed_row (phased Queued) c rows) (filter (stays rows c) delayed ++ c ∷ []) capacity room = covered_delayed Queued c rows delayed capacity room high p in
    let n : length (filter (stays rows c) delayed ++ c ∷ []) ≤ length (changed_row (phased Queued) c rows) + 1 = length-le_from_distinct_below (filter (stays rows c) delayed ++ c ∷ []) (length (changed_row (phased Queued) c rows) + 1) q.distinct q.known in
    let m : length (changed_row (phased Queued) c rows) ≡ length rows = length-changed (phased Queued) c rows in
    let k : length (filter (stays rows c) delayed ++ c ∷ []) ≡ length (filter (stays rows c) delayed) + 1 = one-longer (filter (stays rows c) delayed) c in
    let s : room < capacity = p.spare in
    omega (arith, n, m, k, s, within)
  where
    one-longer : (xs : List ℕ) (x : ℕ) → length (xs ++ x ∷ []) ≡ length xs + 1
    one-longer [] x = refl
    one-longer (y ∷ ys) x = let e : length (ys ++ x ∷ []) ≡ length ys + 1 = one-longer ys x in omega (arith, e)

-- Which changes let no more calls wait.
pub ended_fewer : (x : Ending) (r : RowView) → is_delayed r.phase (or_else r.ending (Some x)) ≡ true → is_delayed r.phase r.ending ≡ true
ended_fewer x r h = absurd (none r.phase r.ending h)
  where
    none : (p : Phase) (e : Option Ending) → is_delayed p (or_else e (Some x)) ≡ true → ⊥
    none Unposted None h = cc
    none Queued None h = cc
    none (Judged v) None h = cc
    none (Delayed t) None h = cc
    none GivenUp None h = cc
    none Unposted (Some y) h = cc
    none Queued (Some y) h = cc
    none (Judged v) (Some y) h = cc
    none (Delayed t) (Some y) h = cc
    none GivenUp (Some y) h = cc

answered-not : (p : Phase) (y : Ending) → is_delayed p (Some y) ≡ false
answered-not Unposted y = refl
answered-not Queued y = refl
answered-not (Judged v) y = refl
answered-not (Delayed t) y = refl
answered-not GivenUp y = refl

pub settled_fewer : (p : Phase) → settles p ≡ true → (e : Option Ending) → is_delayed p e ≡ false
settled_fewer (Judged v) h None = refl
settled_fewer (Judged v) h (Some y) = refl
settled_fewer GivenUp h None = refl
settled_fewer GivenUp h (Some y) = refl
settled_fewer Unposted h e = absurd cc
settled_fewer Queued h e = absurd cc
settled_fewer (Delayed t) h e = absurd cc

pub queued_fewer : (e : Option Ending) → is_delayed Queued e ≡ false
queued_fewer None = refl
queued_fewer (Some y) = refl

pub settled_unqueued : (p : Phase) → settles p ≡ true → is_queued p ≡ false
settled_unqueued (Judged v) h = refl
settled_unqueued GivenUp h = refl
settled_unqueued Unposted h = absurd cc
settled_unqueued Queued h = absurd cc
settled_unqueued (Delayed t) h = absurd cc

-- ---- the least time

sooner-lesser : (a m : Option ℕ) (t : ℕ) → sooner_of (sooner_of a (Some t)) m ≡ sooner_of a (lesser t m)
sooner-lesser None None t = refl
sooner-lesser None (Some y) t = refl
sooner-lesser (Some x) None t = refl
sooner-lesser (Some x) (Some y) t = let e : min (min x t) y ≡ min x (min t y) = omega arith in ap (λ (n : ℕ). Some n) e

sooner-right : (a : Option ℕ) → sooner_of a None ≡ a
sooner-right None = refl
sooner-right (Some t) = refl

least-fold : (w : ℕ → Option ℕ) (a : Option ℕ) (xs : List ℕ) → fold (λ b c. sooner_of b (w c)) a xs ≡ sooner_of a (least (filter_map w xs))
least-fold w a [] = refl
least-fold w a (x ∷ xs) = by-wait (w x) (least-fold w a xs) (λ t. least-fold w (sooner_of a (Some t)) xs)
  where
    by-wait : (m : Option ℕ) → fold (λ b c. sooner_of b (w c)) a xs ≡ sooner_of a (least (filter_map w xs)) → ((t : ℕ) → fold (λ b c. sooner_of b (w c)) (sooner_of a (Some t)) xs ≡ sooner_of (sooner_of a (Some t)) (least (filter_map w xs)))
        → fold (λ b c. sooner_of b (w c)) (sooner_of a m) xs ≡ sooner_of a (least (cons_option m (filter_map w xs)))
    by-wait None p q = ap (λ (b : Option ℕ). fold (λ d c. sooner_of d (w c)) b xs) (sooner-right a) ∙ p
    by-wait (Some t) p q = q t ∙ sooner-lesser a (least (filter_map w xs)) t

sooner-none : (m : Option ℕ) → sooner_of None m ≡ m
sooner-none None = refl
sooner-none (Some t) = refl

pub least_folded : (w : ℕ → Option ℕ) (xs : List ℕ) → fold (λ b c. sooner_of b (w c)) None xs ≡ least (filter_map w xs)
least_folded w xs = least-fold w None xs ∙ sooner-none (least (filter_map w xs))

pub queued_no : (r : RowView) → is_delayed Queued r.ending ≡ true → is_delayed r.phase r.ending ≡ true
queued_no r h = let e : is_delayed Queued r.ending ≡ false = queued_fewer r.ending in absurd cc

pub settled_no : (p : Phase) → settles p ≡ true → (r : RowView) → is_delayed p r.ending ≡ true → is_delayed r.phase r.ending ≡ true
settled_no p k r h = let e : is_delayed p r.ending ≡ false = settled_fewer p k r.ending in absurd cc

-- The least of a list is below each of its numbers, and is one of them.
lesser-some : (t : ℕ) (o : Option ℕ) → (m : ℕ) × (lesser t o ≡ Some m) × (m ≤ t)
lesser-some t None = (t, refl, omega arith)
lesser-some t (Some y) = (min t y, refl, omega arith)

lesser-least : (s t : ℕ) (o : Option ℕ) (m : ℕ) → o ≡ Some m → m ≤ t → (k : ℕ) × (lesser s o ≡ Some k) × (k ≤ t)
lesser-least s t o m e h = (min s m, ap (λ (p : Option ℕ). lesser s p) e, omega (arith, h))

lower : (w : ℕ → Option ℕ) (xs : List ℕ) (c t : ℕ) → list_any (eqb c) xs ≡ true → w c ≡ Some t → (m : ℕ) × (least (filter_map w xs) ≡ Some m) × (m ≤ t)
lower w [] c t h e = absurd cc
lower w (x ∷ xs) c t h e = elim (eqb c x) as (λ b. eqb c x ≡ b → (b || list_any (eqb c) xs) ≡ true → (m : ℕ) × (least (filter_map w (x ∷ xs)) ≡ Some m) × (m ≤ t)) [
  | true ↦ λ q i. let z : w x ≡ Some t = ap w (sym (eqb-true c x q)) ∙ e in first-low (w x) z
  | false ↦ λ q i. later-low (w x) (lower w xs c t i e)
] refl h
  where
    first-low : (o : Option ℕ) → o ≡ Some t → (m : ℕ) × (least (cons_option o (filter_map w xs)) ≡ Some m) × (m ≤ t)
    first-low None q = absurd cc
    first-low (Some s) q = let z : s ≡ t = ap (λ (p : Option ℕ). number_or_zero p) q in let k = lesser-some s (least (filter_map w xs)) in (k.0, k.1, let y : k.0 ≤ s = k.2 in omega (arith, y, z))

    later-low : (o : Option ℕ) → ((m : ℕ) × (least (filter_map w xs) ≡ Some m) × (m ≤ t)) → (m : ℕ) × (least (cons_option o (filter_map w xs)) ≡ Some m) × (m ≤ t)
    later-low None k = k
    later-low (Some s) k = lesser-least s t (least (filter_map w xs)) k.0 k.1 k.2

attained : (w : ℕ → Option ℕ) (xs : List ℕ) (m : ℕ) → least (filter_map w xs) ≡ Some m → (c : ℕ) × (list_any (eqb c) xs ≡ true) × (w c ≡ Some m)
attained w [] m e = absurd cc
attained w (x ∷ xs) m e = by-first (attained w xs) (w x) refl e
  where
    or-later : (a d : Bool) → d ≡ true → (a || d) ≡ true
    or-later true d k = refl
    or-later false d k = k

    there : ((c : ℕ) × (list_any (eqb c) xs ≡ true) × (w c ≡ Some m)) → (c : ℕ) × (list_any (eqb c) (x ∷ xs) ≡ true) × (w c ≡ Some m)
    there k = (k.0, or-later (eqb k.0 x) (list_any (eqb k.0) xs) k.1, k.2)

    here : w x ≡ Some m → (c : ℕ) × (list_any (eqb c) (x ∷ xs) ≡ true) × (w c ≡ Some m)
    here q = (x, ap (λ (b : Bool). b || list_any (eqb x) xs) (self-same x), q)

    pick : ((n : ℕ) → least (filter_map w xs) ≡ Some n → (c : ℕ) × (list_any (eqb c) xs ≡ true) × (w c ≡ Some n)) → (s y : ℕ) (b : Bool) → nat_lt y s ≡ b → w x ≡ Some s → least (filter_map w xs) ≡ Some y → min s y ≡ m → (c : ℕ) × (list_any (eqb c) (x ∷ xs) ≡ true) × (w c ≡ Some m)
    pick ih s y true q i k z = let d : y ≡ m = let h : y < s = ltb-true y s q in omega (arith, h, z) in there (ih m (k ∙ ap (λ (n : ℕ). Some n) d))
    pick ih s y false q i k z = let d : s ≡ m = let h : s ≤ y = ltb-false y s q in omega (arith, h, z) in here (i ∙ ap (λ (n : ℕ). Some n) d)

    by-rest : ((n : ℕ) → least (filter_map w xs) ≡ Some n → (c : ℕ) × (list_any (eqb c) xs ≡ true) × (w c ≡ Some n)) → (s : ℕ) (p : Option ℕ) → w x ≡ Some s → least (filter_map w xs) ≡ p → lesser s p ≡ Some m → (c : ℕ) × (list_any (eqb c) (x ∷ xs) ≡ true) × (w c ≡ Some m)
    by-rest ih s None i k z = here (i ∙ z)
    by-rest ih s (Some y) i k z = pick ih s y (nat_lt y s) refl i k (ap (λ (p : Option ℕ). number_or_zero p) z)

    by-first : ((n : ℕ) → least (filter_map w xs) ≡ Some n → (c : ℕ) × (list_any (eqb c) xs ≡ true) × (w c ≡ Some n)) → (o : Option ℕ) → w x ≡ o → least (cons_option o (filter_map w xs)) ≡ Some m → (c : ℕ) × (list_any (eqb c) (x ∷ xs) ≡ true) × (w c ≡ Some m)
    by-first ih None i k = there (ih m k)
    by-first ih (Some s) i k = by-rest ih s (least (filter_map w xs)) i refl k

same-least : (w : ℕ → Option ℕ) (xs ys : List ℕ) → ((c t : ℕ) → list_any (eqb c) xs ≡ true → w c ≡ Some t → list_any (eqb c) ys ≡ true) → ((c t : ℕ) → list_any (eqb c) ys ≡ true → w c ≡ Some t → list_any (eqb c) xs ≡ true)
    → least (filter_map w xs) ≡ least (filter_map w ys)
same-least w xs ys p q = both (least (filter_map w xs)) refl (least (filter_map w ys)) refl
  where
    both : (o : Option ℕ) → least (filter_map w xs) ≡ o → (r : Option ℕ) → least (filter_map w ys) ≡ r → least (filter_map w xs) ≡ least (filter_map w ys)
    both None e None f = e ∙ sym f
    both None e (Some m) f = let b = attained w ys m f in let a = lower w xs b.0 m (q b.0 m b.1 b.2) b.2 in let z : None ≡ Some a.0 = sym e ∙ a.1 in absurd cc
    both (Some m) e None f = let b = attained w xs m e in let a = lower w ys b.0 m (p b.0 m b.1 b.2) b.2 in let z : None ≡ Some a.0 = sym f ∙ a.1 in absurd cc
    both (Some m) e (Some n) f =
        let b = attained w xs m e in
        let a = lower w ys b.0 m (p b.0 m b.1 b.2) b.2 in
        let d = attained w ys n f in
        let g = lower w xs d.0 n (q d.0 n d.1 d.2) d.2 in
        let u : a.0 ≡ n = ap (λ (o : Option ℕ). number_or_zero o) (sym a.1 ∙ f) in
        let v : g.0 ≡ m = ap (λ (o : Option ℕ). number_or_zero o) (sym g.1 ∙ e) in
        let x : a.0 ≤ m = a.2 in
        let y : g.0 ≤ n = g.2 in
        let z : m ≡ n = omega (arith, u, v, x, y) in
        e ∙ ap (λ (k : ℕ). Some k) z ∙ sym f

waits-delayed : (now t : ℕ) (p : Phase) (e : Option Ending) → wait_until now p (is_some e) ≡ Some t → is_delayed p e ≡ true
waits-delayed now t (Delayed u) None h = refl
waits-delayed now t (Delayed u) (Some y) h = absurd cc
waits-delayed now t Unposted e h = absurd cc
waits-delayed now t Queued e h = absurd cc
waits-delayed now t (Judged v) e h = absurd cc
waits-delayed now t GivenUp e h = absurd cc

row-waits : (now t : ℕ) (r : Option RowView) → row_wait now r ≡ Some t → row_delayed r ≡ true
row-waits now t None h = absurd cc
row-waits now t (Some r) h = waits-delayed now t r.phase r.ending h

member-one_to : (n c : ℕ) → 1 ≤ c → c ≤ n → list_any (eqb c) (one_to n) ≡ true
member-one_to zero c low high = absurd (omega (arith, low, high))
member-one_to (suc n) c low high = list_any-append (eqb c) (one_to n) (suc n ∷ []) ∙ which (member-one_to n c low) (eqb c (suc n)) refl
  where
    which : (c ≤ n → list_any (eqb c) (one_to n) ≡ true) → (b : Bool) → eqb c (suc n) ≡ b → (list_any (eqb c) (one_to n) || (eqb c (suc n) || false)) ≡ true
    which ih true e = or-last (list_any (eqb c) (one_to n)) (eqb c (suc n)) e
      where
        or-last : (a d : Bool) → d ≡ true → (a || (d || false)) ≡ true
        or-last true d k = refl
        or-last false true k = refl
        or-last false false k = k
    which ih false e = let z : c ≤ n = grind (arith, nat_tests, e, high) in ap (λ (a : Bool). a || (eqb c (suc n) || false)) (ih z)

wait-in : (now : ℕ) (rows : List RowView) (k : ℕ) → row_wait now (slice_get rows k) ≡ wait_until now (slice_index_or (map (λ (r : RowView). r.phase) rows) k Unposted) (is_some (slice_index_or (map (λ (r : RowView). r.ending) rows) k None))
wait-in now [] k = refl
wait-in now (r ∷ rs) zero = refl
wait-in now (r ∷ rs) (suc k) = wait-in now rs k

wait-seen : (now : ℕ) (rows : List RowView) (posted : List ℕ) (waiting : Queues) (room causes c : ℕ) → row_wait now (row_at rows c) ≡ wait_of (kept_of rows posted waiting room causes) now c
wait-seen now rows posted waiting room causes zero = refl
wait-seen now rows posted waiting room causes (suc k) = wait-in now rows k

filter_map-same : (f g : ℕ → Option ℕ) (xs : List ℕ) → ((x : ℕ) → f x ≡ g x) → filter_map f xs ≡ filter_map g xs
filter_map-same f g [] p = refl
filter_map-same f g (x ∷ xs) p = ap₂ (λ (o : Option ℕ) (ys : List ℕ). cons_option o ys) (p x) (filter_map-same f g xs p)

pub next-seen : (rows : List RowView) (posted : List ℕ) (waiting : Queues) (capacity room causes now : ℕ) (delayed : List ℕ) → IsCovered rows delayed capacity room → least (filter_map (λ c. row_wait now (row_at rows c)) delayed) ≡ next_wait (kept_of rows posted waiting room causes) now
next-seen rows posted waiting capacity room causes now delayed p =
    same-least (λ c. row_wait now (row_at rows c)) delayed (one_to (length rows))
    (λ c t h e. let z = inside rows c (row-waits now t (row_at rows c) e) in member-one_to (length rows) c z.0 z.1)
    (λ c t h e. p.covers c (row-waits now t (row_at rows c) e))
    ∙ ap (λ (xs : List ℕ). least xs) (filter_map-same (λ c. row_wait now (row_at rows c)) (wait_of (kept_of rows posted waiting room causes) now) (one_to (length rows)) (wait-seen now rows posted waiting room causes))
    ∙ ap (λ (n : ℕ). least (filter_map (wait_of (kept_of rows posted waiting room causes) now) (one_to n))) (sym (length-map rows (λ (r : RowView). Some r.issue)))

-- ---- one row

-- A call that is answered waits for no time, and one that is not waits where a Retry delayed it.
pub answered_waits_not : (p : Phase) (e : Option Ending) → is_some e ≡ true → is_delayed p e ≡ false
answered_waits_not (Delayed t) None h = absurd cc
answered_waits_not (Delayed t) (Some x) h = refl
answered_waits_not _ e h = refl

pub delayed_waits : (t : ℕ) (e : Option Ending) → is_some e ≡ false → is_delayed (Delayed t) e ≡ true
delayed_waits t None h = refl
delayed_waits t (Some x) h = absurd cc
