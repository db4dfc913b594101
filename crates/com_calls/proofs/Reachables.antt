-- The list of the calls that a disconnection can reach, and what answered calls send, after a change.
use Rattle.std.proofs.Common.{◌≡◌, refl, ◌∙◌, ap, arith, subst, ℕ, zero, suc, ◌+◌, ◌<◌, ◌≤◌, ◌⊎◌, inl, inr, Bool, true, false, cond, eqb, if◌then◌else◌, ◌&&◌, ◌||◌, List, [], ◌∷◌, ◌++◌, filter, length, Option, Some, is_none, slice_get}
use Rattle.std.specs.List.{list_any}
use Rattle.std.specs.Option.{option_map}
use Rattle.std.proofs.lemmas.Bool.Decides.{nat_tests}
use Rattle.std.proofs.lemmas.List.Folds.{list_any-append}
use Rattle.com_base.specs.declared.hresult.HResult.{HResult}
use Rattle.com_base.specs.declared.value.Value.{Value}
use Rattle.com_model.specs.declared.deeds.Route.{Route}
use Rattle.com_model.specs.declared.keeps.Admission.{Admission}
use Rattle.com_model.specs.declared.keeps.Ending.{Ending}
use Rattle.com_model.specs.declared.keeps.Ending.TheVariants.{ByLeave}
use Rattle.com_model.specs.declared.keeps.Issue.{Issue}
use Rattle.com_model.specs.Lists.{or_else}
use Rattle.com_model.specs.Calls.{is_marshalled}
use Rattle.com_model.specs.Endings.{can_be_cut}
use Rattle.com_calls.specs.declared.rows.Issued.{Issued}
use Rattle.com_calls.specs.Rows.{RowView, changed_in, changed_row, row_at, admitting, ending_by, left_with, new_row_of}
use Rattle.com_calls.specs.Reached.{is_reachable, row_reachable, IsListed, with_listed, IsLetGo, AreLetGo}
use Rattle.com_calls.proofs.Inboxes.{length-changed, length-grown, and-none, some-else}
use Rattle.com_calls.proofs.Delays.{any-filter}

-- ---- the list

same-in : (f : RowView → RowView) (k : ℕ) (rows : List RowView) → slice_get (changed_in f k rows) k ≡ option_map f (slice_get rows k)
same-in f k [] = refl
same-in f zero (r ∷ rs) = refl
same-in f (suc k) (r ∷ rs) = same-in f k rs

-- The row that changed.
pub same_row : (f : RowView → RowView) (c : ℕ) (rows : List RowView) → row_at (changed_row f c rows) c ≡ option_map f (row_at rows c)
same_row f zero rows = refl
same_row f (suc k) rows = same-in f k rows

reach-in : (f : RowView → RowView) (k : ℕ) (rows : List RowView) (j : ℕ) → ((r : RowView) → is_reachable (f r) ≡ true → is_reachable r ≡ true) → row_reachable (slice_get (changed_in f k rows) j) ≡ true → row_reachable (slice_get rows j) ≡ true
reach-in f k [] j p h = h
reach-in f zero (r ∷ rs) zero p h = p r h
reach-in f zero (r ∷ rs) (suc j) p h = h
reach-in f (suc k) (r ∷ rs) zero p h = h
reach-in f (suc k) (r ∷ rs) (suc j) p h = reach-in f k rs j p h

reach-changed : (f : RowView → RowView) (c : ℕ) (rows : List RowView) (x : ℕ) → ((r : RowView) → is_reachable (f r) ≡ true → is_reachable r ≡ true) → row_reachable (row_at (changed_row f c rows) x) ≡ true → row_reachable (row_at rows x) ≡ true
reach-changed f zero rows x p h = h
reach-changed f (suc k) rows zero p h = h
reach-changed f (suc k) rows (suc j) p h = reach-in f k rows j p h

pub listed_none : (capacity : ℕ) → IsListed [] [] capacity 0
listed_none capacity = record {
  covers = nothing;
  few = omega arith;
  room_is = omega arith;
}
  where
    nothing : (c : ℕ) → row_reachable (row_at [] c) ≡ true → false ≡ true
    nothing zero e = e
    nothing (suc k) e = e

pub listed_fewer : (f : RowView → RowView) (c : ℕ) (rows : List RowView) (listed : List ℕ) (capacity room : ℕ) → ((r : RowView) → is_reachable (f r) ≡ true → is_reachable r ≡ true) → IsListed rows listed capacity room → IsListed (changed_row f c rows) listed capacity room
listed_fewer f c rows listed capacity room fewer p = record {
  covers = λ x h. p.covers x (reach-changed f c rows x fewer h);
  few = let n : length (changed_row f c rows) ≡ length rows = length-changed f c rows in let h : length listed ≤ length rows = p.few in omega (arith, n, h);
  room_is = p.room_is;
}

pub listed_roomier : (rows : List RowView) (listed : List ℕ) (capacity room more more_room : ℕ) → more_room ≤ more → IsListed rows listed capacity room → IsListed rows listed more more_room
listed_roomier rows listed capacity room more more_room h p = record {
  covers = p.covers;
  few = p.few;
  room_is = h;
}

shorter : (p : ℕ → Bool) (xs : List ℕ) → length (filter p xs) ≤ length xs
shorter p [] = omega arith
shorter p (x ∷ xs) = let h : length (filter p xs) ≤ length xs = shorter p xs in elim (p x) as (λ b. length (cond b (x ∷ filter p xs) (filter p xs)) ≤ suc (length xs)) [ true ↦ omega (arith, h) | false ↦ omega (arith, h) ]

-- What cannot be reached any more is taken out.
pub listed_clean : (rows : List RowView) (listed : List ℕ) (capacity room : ℕ) → IsListed rows listed capacity room → IsListed rows (filter (λ c. row_reachable (row_at rows c)) listed) capacity room
listed_clean rows listed capacity room p = record {
  covers = λ x h. any-filter x (λ c. row_reachable (row_at rows c)) listed (p.covers x h) h;
  few = let h : length listed ≤ length rows = p.few in let s : length (filter (λ c. row_reachable (row_at rows c)) listed) ≤ length listed = shorter (λ c. row_reachable (row_at rows c)) listed in omega (arith, h, s);
  room_is = p.room_is;
}

-- One call more.
later-place : {X : Type 0} {k n : ℕ} {Y : Type 0} → X ⊎ ((k ≡ n) × Y) → X ⊎ ((suc k ≡ suc n) × Y)
later-place (inl x) = inl x
later-place (inr p) = inr (ap (λ (n : ℕ). suc n) p.0, p.1)

reach-grown : (rows : List RowView) (r : RowView) (k : ℕ) → row_reachable (slice_get (rows ++ r ∷ []) k) ≡ true → (row_reachable (slice_get rows k) ≡ true) ⊎ ((k ≡ length rows) × (is_reachable r ≡ true))
reach-grown [] r zero h = inr (refl, h)
reach-grown [] r (suc k) h = absurd cc
reach-grown (x ∷ xs) r zero h = inl h
reach-grown (x ∷ xs) r (suc k) h = later-place (reach-grown xs r k h)

in-first : (q c : ℕ) (xs : List ℕ) (b : Bool) → list_any (eqb q) xs ≡ true → list_any (eqb q) (if b then xs ++ c ∷ [] else xs) ≡ true
in-first q c xs true h = list_any-append (eqb q) xs (c ∷ []) ∙ ap (λ (b : Bool). b || (eqb q c || false)) h
in-first q c xs false h = h

in-last : (q c : ℕ) (xs : List ℕ) (b : Bool) → b ≡ true → q ≡ c → list_any (eqb q) (if b then xs ++ c ∷ [] else xs) ≡ true
in-last q c xs true h e =
    let z : eqb q c ≡ true = grind (arith, nat_tests, e) in
    list_any-append (eqb q) xs (c ∷ []) ∙ ap (λ (b : Bool). list_any (eqb q) xs || (b || false)) z ∙ or-true (list_any (eqb q) xs)
  where
    or-true : (b : Bool) → (b || true) ≡ true
    or-true true = refl
    or-true false = refl
in-last q c xs false h e = absurd cc

longer-by : (route : Route) (c : ℕ) (xs : List ℕ) → length (with_listed route c xs) ≤ length xs + 1
longer-by route c xs = elim (is_marshalled route) as (λ b. length (if b then xs ++ c ∷ [] else xs) ≤ length xs + 1) [ true ↦ last xs | false ↦ omega arith ]
  where
    last : (ys : List ℕ) → length (ys ++ c ∷ []) ≤ length ys + 1
    last [] = omega arith
    last (y ∷ ys) = let e : length (ys ++ c ∷ []) ≤ length ys + 1 = last ys in omega (arith, e)

and-first : (a b d : Bool) → ((a && b) && d) ≡ true → a ≡ true
and-first true b d e = refl
and-first false b d e = e

pub listed_grown : (r : RowView) (rows : List RowView) (listed : List ℕ) (c capacity room : ℕ) → c ≡ length rows + 1 → IsListed rows listed capacity room → IsListed (rows ++ r ∷ []) (with_listed r.issue.route c listed) capacity room
listed_grown r rows listed c capacity room last p = record {
  covers = covered;
  few = let n : length (rows ++ r ∷ []) ≡ length rows + 1 = length-grown rows r in let h : length listed ≤ length rows = p.few in let m : length (with_listed r.issue.route c listed) ≤ length listed + 1 = longer-by r.issue.route c listed in omega (arith, n, h, m);
  room_is = p.room_is;
}
  where
    either : (k : ℕ) → (row_reachable (slice_get rows k) ≡ true) ⊎ ((k ≡ length rows) × (is_reachable r ≡ true)) → list_any (eqb (suc k)) (with_listed r.issue.route c listed) ≡ true
    either k (inl h) = in-first (suc k) c listed (is_marshalled r.issue.route) (p.covers (suc k) h)
    either k (inr h) = in-last (suc k) c listed (is_marshalled r.issue.route) (and-first (is_marshalled r.issue.route) (is_none r.admission) (is_none r.ending) h.1) (let e : k ≡ length rows = h.0 in omega (arith, e, last))

    covered : (x : ℕ) → row_reachable (row_at (rows ++ r ∷ []) x) ≡ true → list_any (eqb x) (with_listed r.issue.route c listed) ≡ true
    covered zero h = absurd cc
    covered (suc k) h = either k (reach-grown rows r k h)

-- There is a place for it.
pub listed_fits : (rows : List RowView) (listed : List ℕ) (capacity room : ℕ) → length rows < room → IsListed rows listed capacity room → length listed < capacity
listed_fits rows listed capacity room h p = let few : length listed ≤ length rows = p.few in let fits : room ≤ capacity = p.room_is in omega (arith, h, few, fits)

-- ---- which changes let a disconnection reach no more calls

pub ended_unreached : (x : Ending) (r : RowView) → is_reachable (ending_by x r) ≡ true → is_reachable r ≡ true
ended_unreached x r h = let e : is_reachable (ending_by x r) ≡ false = and-none (can_be_cut (Some r.issue) r.admission) (is_none (or_else r.ending (Some x))) (some-else r.ending x) in absurd cc

pub left_unreached : (c : ℕ) (hr : HResult) (v : Option Value) (r : RowView) → is_reachable (left_with c hr v r) ≡ true → is_reachable r ≡ true
left_unreached c hr v r h = ended_unreached (ByLeave hr v) r h

pub entered_unreached : (a : Admission) (r : RowView) → is_reachable (admitting a r) ≡ true → is_reachable r ≡ true
entered_unreached a r h = let e : is_reachable (admitting a r) ≡ false = ap (λ (b : Bool). b && is_none r.ending) (and-none (is_marshalled r.issue.route) false refl) in absurd cc

-- ---- what answered calls send

let-go-in : (f : RowView → RowView) (k : ℕ) (rows : List RowView) → ((r : RowView) → IsLetGo r → IsLetGo (f r)) → AreLetGo rows → AreLetGo (changed_in f k rows)
let-go-in f k [] p h = h
let-go-in f zero (r ∷ rs) p h = (p r h.0, h.1)
let-go-in f (suc k) (r ∷ rs) p h = (h.0, let-go-in f k rs p h.1)

pub let_go_changed : (f : RowView → RowView) (c : ℕ) (rows : List RowView) → ((r : RowView) → IsLetGo r → IsLetGo (f r)) → AreLetGo rows → AreLetGo (changed_row f c rows)
let_go_changed f zero rows p h = h
let_go_changed f (suc k) rows p h = let-go-in f k rows p h

pub let_go_grown : (r : RowView) (rows : List RowView) → IsLetGo r → AreLetGo rows → AreLetGo (rows ++ r ∷ [])
let_go_grown r [] p h = (p, tt)
let_go_grown r (x ∷ xs) p h = (h.0, let_go_grown r xs p h.1)

pub let_go_at : (rows : List RowView) (k : ℕ) (r : RowView) → slice_get rows k ≡ Some r → AreLetGo rows → IsLetGo r
let_go_at [] k r e h = absurd cc
let_go_at (x ∷ xs) zero r e h = let same : x ≡ r = cc in subst (λ (y : RowView). IsLetGo y) same h.0
let_go_at (x ∷ xs) (suc k) r e h = let_go_at xs k r e h.1

pub new_let_go : (x : Issue) (i : Issued) (now : ℕ) → IsLetGo (new_row_of x i now)
new_let_go x i now = λ e. absurd cc
