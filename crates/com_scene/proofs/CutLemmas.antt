-- The rows of a table that are changed one by one.
use Rattle.std.proofs.Common.{◌≡◌, ℕ, zero, suc, ◌+◌, ◌<◌, ◌≤◌, List, [], ◌∷◌, ◌++◌, arith, refl, sym, ◌∙◌, ap, length, slice_set, slice_index_or, take, drop, add-one, Option, Some, None, ◌==◌, if◌then◌else◌}
use Rattle.com_body.specs.declared.frame.Cells.{Cells}
use Rattle.com_body.specs.declared.frame.Outcome.{Outcome}
use Rattle.com_model.specs.declared.deeds.Entry.{Entry}
use Rattle.com_model.specs.Apartments.{ends_sta}
use Rattle.com_model.specs.Frames.{Actor as Acting}
use Rattle.com_model.specs.Lists.{each_from}
use Rattle.com_model.specs.State.{SceneTables}
use Rattle.com_state.specs.SceneParts.{without_links, with_rows, rows_acted, rows_arrived, links_cut, rows_after}
use Rattle.com_scene.specs.Kept.{NamesOwners}

each_next : {A : Type 0} (f : ℕ → A → A) (n : ℕ) (xs : List A) (i : ℕ) (d : A) → i < length xs →
    slice_set (each_from f n (take i xs) ++ drop i xs) i (f (n + i) (slice_index_or xs i d)) ≡ each_from f n (take (suc i) xs) ++ drop (suc i) xs
each_next f n [] i d h = absurd (omega (arith, h))
each_next f n (x ∷ xs) zero d h = let e : n + 0 ≡ n = omega arith in ap (λ (m : ℕ). f m x ∷ xs) e
each_next f n (x ∷ xs) (suc i) d h =
    let e : n + suc i ≡ n + 1 + i = omega arith in
    ap (λ (m : ℕ). f n x ∷ slice_set (each_from f (n + 1) (take i xs) ++ drop i xs) i (f m (slice_index_or xs i d))) e
    ∙ ap (λ (ys : List _). f n x ∷ ys) (each_next f (n + 1) xs i d (omega (arith, h)))

pub each_more : {A : Type 0} (f : ℕ → A → A) (xs : List A) (i : ℕ) (d : A) → i < length xs →
    slice_set (each_from f 0 (take i xs) ++ drop i xs) i (f i (slice_index_or xs i d)) ≡ each_from f 0 (take (i + 1) xs) ++ drop (i + 1) xs
each_more f xs i d h =
    let e : i ≡ 0 + i = omega arith in
    ap (λ (m : ℕ). slice_set (each_from f 0 (take i xs) ++ drop i xs) i (f m (slice_index_or xs i d))) e
    ∙ rw add-one (each_next f 0 xs i d h)

-- The row that comes next is still as it was.
pub each_row : {A : Type 0} (f : ℕ → A → A) (n : ℕ) (xs : List A) (i : ℕ) (d : A) → i < length xs →
    slice_index_or (each_from f n (take i xs) ++ drop i xs) i d ≡ slice_index_or xs i d
each_row f n [] i d h = absurd (omega (arith, h))
each_row f n (x ∷ xs) zero d h = refl
each_row f n (x ∷ xs) (suc i) d h = each_row f (n + 1) xs i d (omega (arith, h))

pub each_all : {A : Type 0} (f : ℕ → A → A) (n : ℕ) (xs : List A) (k : ℕ) → length xs ≡ k →
    each_from f n (take k xs) ++ drop k xs ≡ each_from f n xs
each_all f n [] zero h = refl
each_all f n [] (suc k) h = absurd (omega (arith, h))
each_all f n (x ∷ xs) zero h = absurd (omega (arith, h))
each_all f n (x ∷ xs) (suc k) h = ap (λ (ys : List _). f n x ∷ ys) (each_all f (n + 1) xs k (omega (arith, h)))

pub each_length : {A : Type 0} (f : ℕ → A → A) (n : ℕ) (xs : List A) → length (each_from f n xs) ≡ length xs
each_length f n [] = refl
each_length f n (x ∷ xs) = ap (λ (k : ℕ). suc k) (each_length f (n + 1) xs)

-- Two changes that agree on the numbers of the rows.
pub each_same : {A : Type 0} (f g : ℕ → A → A) (n : ℕ) (xs : List A) → ((o : ℕ) → n ≤ o → o < n + length xs → (x : A) → f o x ≡ g o x) →
    each_from f n xs ≡ each_from g n xs
each_same f g n [] h = refl
each_same f g n (x ∷ xs) h =
    ap (λ (y : _). y ∷ each_from f (n + 1) xs) (h n (omega arith) (omega arith) x)
    ∙ ap (λ (ys : List _). g n x ∷ ys) (each_same f g (n + 1) xs (λ o a b. h o (omega (arith, a)) (omega (arith, b))))

-- One row more, whose old value is read beside the rows that are changed already.
pub cut_step : {A : Type 0} (f : ℕ → A → A) (rows xs : List A) (i : ℕ) (x y : A) → i < length xs →
    rows ≡ each_from f 0 (take i xs) ++ drop i xs → y ≡ slice_index_or rows i y → x ≡ f i y →
    slice_set rows i x ≡ each_from f 0 (take (i + 1) xs) ++ drop (i + 1) xs
cut_step f rows xs i x y h e r w =
    let row : y ≡ slice_index_or xs i y = r ∙ ap (λ (ys : List _). slice_index_or ys i y) e ∙ each_row f 0 xs i y h in
    ap (λ (z : _). slice_set rows i z) (w ∙ ap (f i) row)
    ∙ ap (λ (ys : List _). slice_set ys i (f i (slice_index_or xs i y))) e
    ∙ each_more f xs i y h

-- Which objects are cut is what counts, and not how their owners are named.
cut_same : (named other : ℕ → ℕ) (x : Option ℕ) (t : SceneTables) → ((a : ℕ) → x ≡ Some a → (o : ℕ) → named o ≡ other o) → links_cut named x t ≡ links_cut other x t
cut_same named other None t h = refl
cut_same named other (Some a) t h =
    ap (λ (cells : List Cells). record t { cells = cells })
    (each_same (λ o c. if named o == a then without_links c else c) (λ o c. if other o == a then without_links c else c) 0 t.cells
    (λ o l m c. ap (λ (n : ℕ). if n == a then without_links c else c) (h a refl o)))

pub after_same : (named : ℕ → ℕ) (owners : List ℕ) (a : Acting) (r : Option Outcome) (b : Acting) (e : Entry) (t : SceneTables) → NamesOwners named (ends_sta e.deed) owners →
    rows_after (λ o. slice_index_or owners o 0) a r b e t ≡ rows_after named a r b e t
after_same named owners a r b e t h = by-end (ends_sta e.deed) h
  where
    by-end : (x : Option ℕ) → NamesOwners named x owners →
        links_cut (λ o. slice_index_or owners o 0) x (rows_arrived b e.lane e.deed (rows_acted a r e.deed (with_rows e t)))
        ≡ links_cut named x (rows_arrived b e.lane e.deed (rows_acted a r e.deed (with_rows e t)))
    by-end None h = refl
    by-end (Some y) h = cut_same (λ o. slice_index_or owners o 0) named (Some y) _ (λ a q o. sym (h o))
