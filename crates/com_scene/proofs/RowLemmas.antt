-- Lists where one row is set, and their columns.
use Rattle.std.proofs.Common.{◌≡◌, ℕ, zero, suc, ◌+◌, ◌<◌, ◌≤◌, List, [], ◌∷◌, ◌++◌, Option, None, arith, refl, sym, ◌∙◌, ap, ap₂, length, map, slice_set, slice_index_or, replicate, drop, add-one}
use Rattle.std.proofs.lemmas.List.{map-set}
use Rattle.com_body.specs.declared.operands.Destination.{Destination}
use Rattle.com_body.specs.declared.frame.Cells.{Cells}
use Rattle.com_body.specs.Frames.{FrameView, entered}
use Rattle.com_model.specs.Lists.{tabulated}
use Rattle.com_model.specs.State.{SceneTables}
use Rattle.com_state.specs.SceneParts.{with_body, body_at}
use Rattle.com_scene.specs.declared.tables.CallRow.{CallRow}
use Rattle.com_scene.specs.Seen.{body_of, destination_of}

pub set_beyond : {A : Type 0} (xs : List A) (i : ℕ) (x : A) → length xs ≤ i → slice_set xs i x ≡ xs
set_beyond [] i x h = refl
set_beyond (y ∷ ys) zero x h = absurd (omega (arith, h))
set_beyond (y ∷ ys) (suc i) x h = ap (λ (zs : List _). y ∷ zs) (set_beyond ys i x (omega (arith, h)))

-- A row that is read and set again.
pub set_again : {A : Type 0} (xs : List A) (i : ℕ) (x y : A) → slice_set (slice_set xs i x) i y ≡ slice_set xs i y
set_again [] i x y = refl
set_again (z ∷ zs) zero x y = refl
set_again (z ∷ zs) (suc i) x y = ap (λ (ws : List _). z ∷ ws) (set_again zs i x y)

pub set_on : {A : Type 0} (g : A → A) (xs : List A) (i : ℕ) (x d : A) → slice_set (slice_set xs i x) i (g (slice_index_or (slice_set xs i x) i d)) ≡ slice_set xs i (g x)
set_on g [] i x d = refl
set_on g (z ∷ zs) zero x d = refl
set_on g (z ∷ zs) (suc i) x d = ap (λ (ws : List _). z ∷ ws) (set_on g zs i x d)

pub set_same : {A : Type 0} (xs : List A) (i : ℕ) (d : A) → slice_set xs i (slice_index_or xs i d) ≡ xs
set_same [] i d = refl
set_same (x ∷ xs) zero d = refl
set_same (x ∷ xs) (suc i) d = ap (λ (ys : List _). x ∷ ys) (set_same xs i d)

pub map_set : {A B : Type 0} (f : A → B) (l : List A) (i : ℕ) (a : A) → map f (slice_set l i a) ≡ slice_set (map f l) i (f a)
map_set f l i a = map-set f l i a

pub map_kept : {A B : Type 0} (f : A → B) (l : List A) (i : ℕ) (a d : A) → f a ≡ f (slice_index_or l i d) → map f (slice_set l i a) ≡ map f l
map_kept f [] i a d e = refl
map_kept f (x ∷ xs) zero a d e = ap (λ (y : _). y ∷ map f xs) e
map_kept f (x ∷ xs) (suc i) a d e = ap (λ (ys : List _). f x ∷ ys) (map_kept f xs i a d e)

pub map_get : {A B : Type 0} (f : A → B) (l : List A) (i : ℕ) (d : A) (e : B) → i < length l → slice_index_or (map f l) i e ≡ f (slice_index_or l i d)
map_get f [] i d e h = absurd (omega (arith, h))
map_get f (x ∷ xs) zero d e h = refl
map_get f (x ∷ xs) (suc i) d e h = map_get f xs i d e (omega (arith, h))

pub map_append : {A B : Type 0} (f : A → B) (l : List A) (a : A) → map f (l ++ a ∷ []) ≡ map f l ++ f a ∷ []
map_append f [] a = refl
map_append f (x ∷ xs) a = ap (λ (ys : List _). f x ∷ ys) (map_append f xs a)

pub map_length : {A B : Type 0} (f : A → B) (l : List A) → length (map f l) ≡ length l
map_length f [] = refl
map_length f (x ∷ xs) = ap (λ (n : ℕ). suc n) (map_length f xs)

-- The first rows are null, and one more.
nulls_next : {A : Type 0} (xs : List (Option A)) (i : ℕ) → i < length xs →
    slice_set (replicate i None ++ drop i xs) i None ≡ replicate (suc i) None ++ drop (suc i) xs
nulls_next [] i h = absurd (omega (arith, h))
nulls_next (x ∷ xs) zero h = refl
nulls_next (x ∷ xs) (suc i) h = ap (λ (ys : List (Option _)). None ∷ ys) (nulls_next xs i (omega (arith, h)))

pub nulls_more : {A : Type 0} (xs : List (Option A)) (i : ℕ) → i < length xs →
    slice_set (replicate i None ++ drop i xs) i None ≡ replicate (i + 1) None ++ drop (i + 1) xs
nulls_more xs i h = rw add-one (nulls_next xs i h)

pub nulls_all : {A : Type 0} (xs : List (Option A)) (n : ℕ) → length xs ≡ n → replicate n None ++ drop n xs ≡ replicate n None
nulls_all [] zero h = refl
nulls_all [] (suc n) h = absurd (omega (arith, h))
nulls_all (x ∷ xs) zero h = absurd (omega (arith, h))
nulls_all (x ∷ xs) (suc n) h = ap (λ (ys : List (Option _)). None ∷ ys) (nulls_all xs n (omega (arith, h)))

-- A call's body is changed by what its row's body becomes.
pub body_changed : (g : FrameView → FrameView) (rows : List CallRow) (c : ℕ) (r d : CallRow) → c < length rows →
    body_of r ≡ g (body_of (slice_index_or rows c d)) →
    slice_set (map body_of rows) c (body_of r) ≡ slice_set (map body_of rows) c (g (slice_index_or (map body_of rows) c (entered [])))
body_changed g rows c r d h e =
    ap (λ (f : FrameView). slice_set (map body_of rows) c f) (e ∙ ap g (sym (map_get body_of rows c d (entered []) h)))

abbrev pub tables_of : List FrameView → List CallRow → List Cells → List (List ℕ) → SceneTables
tables_of scripts rows cells buffers =
    record { scripts = scripts; bodies = map body_of rows; cells = cells; buffers = buffers; destinations = map destination_of rows }

-- A body that changes is a row that is set, on all tables.
pub row_changed : (g : FrameView → FrameView) (scripts : List FrameView) (rows : List CallRow) (cells : List Cells) (buffers : List (List ℕ)) (c : ℕ) (r d : CallRow) →
    c < length rows → body_of r ≡ g (body_of (slice_index_or rows c d)) → destination_of r ≡ destination_of (slice_index_or rows c d) →
    tables_of scripts (slice_set rows c r) cells buffers
    ≡ with_body (tables_of scripts rows cells buffers) c (g (body_at (tables_of scripts rows cells buffers) c))
row_changed g scripts rows cells buffers c r d h e k =
    ap₂ (λ (bodies : List FrameView) (destinations : List Destination). record { scripts = scripts; bodies = bodies; cells = cells; buffers = buffers; destinations = destinations })
    (map_set body_of rows c r ∙ body_changed g rows c r d h e) (map_kept destination_of rows c r d k)

pub get_beyond : {A : Type 0} (xs : List A) (i : ℕ) (d : A) → length xs ≤ i → slice_index_or xs i d ≡ d
get_beyond [] i d h = refl
get_beyond (y ∷ ys) zero d h = absurd (omega (arith, h))
get_beyond (y ∷ ys) (suc i) d h = get_beyond ys i d (omega (arith, h))

pub tabulated_more : {A : Type 0} (n : ℕ) (f : ℕ → A) → tabulated (n + 1) f ≡ tabulated n f ++ f n ∷ []
tabulated_more n f = ap (λ (m : ℕ). tabulated m f) (add-one n)
