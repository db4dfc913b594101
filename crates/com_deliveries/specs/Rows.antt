-- Rows of tables, counted from 1, and what stands open in each lane.
use Rattle.std.specs.Prelude.{ℕ, zero, suc, ◌-◌, ℤ}
use Rattle.std.specs.Prelude.{◌||◌, ◌&&◌, ◌==◌, nat_lt, nat_le, if◌then◌else◌}
use Rattle.std.specs.Prelude.{List, [], ◌∷◌, length, Option, Some, None, slice_get, slice_index_or, slice_set}
use Rattle.com_laws_sources.specs.Sinks.{is_cookie}

-- ---- tables

abbrev pub row_at : {X : Type 0} → List X → ℕ → Option X
row_at rows n = if n == 0 then None else slice_get rows (n - 1)

-- The table in which the row with this number is changed, where there is one.
abbrev pub with_row : {X : Type 0} → (X → X) → (none : X) → ℕ → List X → List X
with_row f none n rows =
    if n == 0 || nat_lt (length rows) n then rows
    else slice_set rows (n - 1) (f (slice_index_or rows (n - 1) none))

-- ---- cookies

-- The cookies without the first one that is this number.
abbrev pub removed : ℤ → List ℕ → List ℕ
removed n [] = []
removed n (c ∷ cs) = if is_cookie n c then cs else c ∷ removed n cs

-- The first cookie above the one that was reached and at most the last one.
abbrev pub next_in : (reached last : ℕ) → List ℕ → Option ℕ
next_in reached last [] = None
next_in reached last (c ∷ cs) = if nat_lt reached c && nat_le c last then Some c else next_in reached last cs

-- The last of these, 0 where there is none.
abbrev pub last_in : List ℕ → ℕ
last_in [] = 0
last_in (c ∷ []) = c
last_in (c ∷ cs) = last_in cs

-- ---- lanes

-- The innermost, 0 where there is none.
abbrev pub top_in : List ℕ → ℕ
top_in [] = 0
top_in (c ∷ cs) = c

abbrev pub without_top : List ℕ → List ℕ
without_top [] = []
without_top (c ∷ cs) = cs

-- What stands open in a lane, the innermost first.
abbrev pub stack_in : List (List ℕ) → ℕ → List ℕ
stack_in lanes l = slice_index_or lanes l []

-- Something more stands open in a lane.
abbrev pub opened_in : ℕ → (call : ℕ) → List (List ℕ) → List (List ℕ)
opened_in zero c [] = (c ∷ []) ∷ []
opened_in zero c (x ∷ xs) = (c ∷ x) ∷ xs
opened_in (suc l) c [] = [] ∷ opened_in l c []
opened_in (suc l) c (x ∷ xs) = x ∷ opened_in l c xs

-- The innermost is closed.
abbrev pub closed_in : ℕ → List (List ℕ) → List (List ℕ)
closed_in l [] = []
closed_in zero (x ∷ xs) = without_top x ∷ xs
closed_in (suc l) (x ∷ xs) = x ∷ closed_in l xs
