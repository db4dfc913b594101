-- What is read of tables of rows and of lanes after a change.
use Rattle.std.proofs.Common.{refl, ap, sym, subst, ◌∙◌, arith, eqb-true}
use Rattle.std.proofs.lemmas.Bool.{false_from_ne_true, ltb-true, ltb-false}
use Rattle.std.proofs.lemmas.List.{get_or-set_same, length-set}
use Rattle.std.proofs.lemmas.Option.{slice_get-get_or, slice_get_past}
use Rattle.std.specs.Prelude.{◌≡◌, ℕ, zero, suc, ◌+◌, ◌-◌, ◌<◌, ◌≤◌, Bool, true, false, cond, ◌||◌, ◌==◌, nat_lt, List, [], ◌∷◌, ◌++◌, length, Option, Some, None, slice_get, slice_index_or, slice_set, option_map}
use Rattle.com_deliveries.specs.Rows.{row_at, with_row, without_top, stack_in, opened_in, closed_in}

-- ---- rows

not-zero : (n : ℕ) → (suc n == 0) ≡ false
not-zero n = false_from_ne_true (suc n == 0) (λ t. let e : suc n ≡ 0 = eqb-true (suc n) 0 t in omega (arith, e))

one-back : (n : ℕ) → suc n - 1 ≡ n
one-back n = omega arith

pub row-is : {X : Type 0} (rows : List X) (n : ℕ) → row_at rows (suc n) ≡ slice_get rows n
row-is {X} rows n = ap (λ (t : Bool). cond t None (slice_get rows (suc n - 1))) (not-zero n) ∙ ap (λ (k : ℕ). slice_get rows k) (one-back n)

pub with-is : {X : Type 0} (f : X → X) (none : X) (n : ℕ) (rows : List X) → with_row f none (suc n) rows ≡ cond (nat_lt (length rows) (suc n)) rows (slice_set rows n (f (slice_index_or rows n none)))
with-is {X} f none n rows =
    ap (λ (t : Bool). cond (t || nat_lt (length rows) (suc n)) rows (slice_set rows (suc n - 1) (f (slice_index_or rows (suc n - 1) none)))) (not-zero n)
    ∙ ap (λ (k : ℕ). cond (nat_lt (length rows) (suc n)) rows (slice_set rows k (f (slice_index_or rows k none)))) (one-back n)

pub no-row : {X : Type 0} (n : ℕ) → row_at {X = X} [] n ≡ None
no-row zero = refl
no-row {X} (suc n) = row-is {X = X} [] n ∙ slice_get_past {X = X} [] n (omega arith)

get-behind : {X : Type 0} (rows : List X) (x : X) → slice_get (rows ++ (x ∷ [])) (length rows) ≡ Some x
get-behind [] x = refl
get-behind (y ∷ ys) x = get-behind ys x

get-before : {X : Type 0} (rows : List X) (x : X) (n : ℕ) → (n ≡ length rows → ⊥) → slice_get (rows ++ (x ∷ [])) n ≡ slice_get rows n
get-before [] x zero f = absurd (f refl)
get-before [] x (suc n) f = refl
get-before (y ∷ ys) x zero f = refl
get-before (y ∷ ys) x (suc n) f = get-before ys x n (λ e. f (ap suc e))

pub row-new : {X : Type 0} (rows : List X) (x : X) (n : ℕ) → n ≡ length rows + 1 → row_at (rows ++ (x ∷ [])) n ≡ Some x
row-new rows x zero e = absurd (omega (arith, e))
row-new rows x (suc n) e =
    let same : n ≡ length rows = omega (arith, e) in
    row-is (rows ++ (x ∷ [])) n ∙ subst (λ (k : ℕ). slice_get (rows ++ (x ∷ [])) k ≡ Some x) (sym same) (get-behind rows x)

pub row-old : {X : Type 0} (rows : List X) (x : X) (n : ℕ) → (n ≡ length rows + 1 → ⊥) → row_at (rows ++ (x ∷ [])) n ≡ row_at rows n
row-old rows x zero f = refl
row-old rows x (suc n) f = row-is (rows ++ (x ∷ [])) n ∙ get-before rows x n (λ e. f (omega (arith, e))) ∙ sym (row-is rows n)

-- The row that is changed.
set-here : {X : Type 0} (f : X → X) (none : X) (rows : List X) (n : ℕ) (t : Bool) → nat_lt (length rows) (suc n) ≡ t
    → slice_get (cond t rows (slice_set rows n (f (slice_index_or rows n none)))) n ≡ option_map f (slice_get rows n)
set-here {X} f none rows n true e =
    let z : length rows < suc n = ltb-true (length rows) (suc n) e in
    let far : length rows ≤ n = omega (arith, z) in
    slice_get_past rows n far ∙ ap (λ (o : Option X). option_map f o) (sym (slice_get_past rows n far))
set-here {X} f none rows n false e =
    let z : suc n ≤ length rows = ltb-false (length rows) (suc n) e in
    let near : n < length rows = omega (arith, z) in
    let x : X = f (slice_index_or rows n none) in
    slice_get-get_or (slice_set rows n x) n none (subst (λ (k : ℕ). n < k) (sym (length-set rows n x)) near)
    ∙ ap (λ (y : X). Some y) (get_or-set_same rows n x none near)
    ∙ ap (λ (o : Option X). option_map f o) (sym (slice_get-get_or rows n none near))

pub row-here : {X : Type 0} (f : X → X) (none : X) (n : ℕ) (rows : List X) → row_at (with_row f none n rows) n ≡ option_map f (row_at rows n)
row-here f none zero rows = refl
row-here {X} f none (suc n) rows =
    ap (λ (xs : List X). row_at xs (suc n)) (with-is f none n rows) ∙ row-is _ n
    ∙ set-here f none rows n (nat_lt (length rows) (suc n)) refl ∙ ap (λ (o : Option X). option_map f o) (sym (row-is rows n))

get-other : {X : Type 0} (rows : List X) (n m : ℕ) (x : X) → (m ≡ n → ⊥) → slice_get (slice_set rows n x) m ≡ slice_get rows m
get-other [] n m x f = refl
get-other (y ∷ ys) zero zero x f = absurd (f refl)
get-other (y ∷ ys) zero (suc m) x f = refl
get-other (y ∷ ys) (suc n) zero x f = refl
get-other (y ∷ ys) (suc n) (suc m) x f = get-other ys n m x (λ e. f (ap suc e))

set-there : {X : Type 0} (f : X → X) (none : X) (rows : List X) (n m : ℕ) (t : Bool) → (m ≡ n → ⊥)
    → slice_get (cond t rows (slice_set rows n (f (slice_index_or rows n none)))) m ≡ slice_get rows m
set-there f none rows n m true g = refl
set-there f none rows n m false g = get-other rows n m (f (slice_index_or rows n none)) g

pub row-there : {X : Type 0} (f : X → X) (none : X) (n m : ℕ) (rows : List X) → (m ≡ n → ⊥) → row_at (with_row f none n rows) m ≡ row_at rows m
row-there f none zero m rows g = refl
row-there f none (suc n) zero rows g = refl
row-there {X} f none (suc n) (suc m) rows g =
    ap (λ (xs : List X). row_at xs (suc m)) (with-is f none n rows) ∙ row-is _ m
    ∙ set-there f none rows n m (nat_lt (length rows) (suc n)) (λ e. g (ap suc e)) ∙ sym (row-is rows m)

length-by : {X : Type 0} (rows : List X) (n : ℕ) (x : X) (t : Bool) → length (cond t rows (slice_set rows n x)) ≡ length rows
length-by rows n x true = refl
length-by rows n x false = length-set rows n x

pub row-length : {X : Type 0} (f : X → X) (none : X) (n : ℕ) (rows : List X) → length (with_row f none n rows) ≡ length rows
row-length f none n rows = length-by rows (n - 1) (f (slice_index_or rows (n - 1) none)) (n == 0 || nat_lt (length rows) n)

pub one-more : {X : Type 0} (rows : List X) (x : X) → length (rows ++ (x ∷ [])) ≡ length rows + 1
one-more [] x = refl
one-more (y ∷ ys) x = let e : length (ys ++ (x ∷ [])) ≡ length ys + 1 = one-more ys x in omega (arith, e)

-- ---- lanes

pub stack-opened : (l c : ℕ) (lanes : List (List ℕ)) → stack_in (opened_in l c lanes) l ≡ c ∷ stack_in lanes l
stack-opened zero c [] = refl
stack-opened zero c (x ∷ xs) = refl
stack-opened (suc l) c [] = stack-opened l c []
stack-opened (suc l) c (x ∷ xs) = stack-opened l c xs

pub stack-beside : (l m c : ℕ) (lanes : List (List ℕ)) → (l ≡ m → ⊥) → stack_in (opened_in l c lanes) m ≡ stack_in lanes m
stack-beside zero zero c lanes f = absurd (f refl)
stack-beside zero (suc m) c [] f = refl
stack-beside zero (suc m) c (x ∷ xs) f = refl
stack-beside (suc l) zero c [] f = refl
stack-beside (suc l) zero c (x ∷ xs) f = refl
stack-beside (suc l) (suc m) c [] f = stack-beside l m c [] (λ e. f (ap suc e))
stack-beside (suc l) (suc m) c (x ∷ xs) f = stack-beside l m c xs (λ e. f (ap suc e))

pub stack-closed : (l : ℕ) (lanes : List (List ℕ)) → stack_in (closed_in l lanes) l ≡ without_top (stack_in lanes l)
stack-closed l [] = refl
stack-closed zero (x ∷ xs) = refl
stack-closed (suc l) (x ∷ xs) = stack-closed l xs

pub stack-still : (l m : ℕ) (lanes : List (List ℕ)) → (l ≡ m → ⊥) → stack_in (closed_in l lanes) m ≡ stack_in lanes m
stack-still l m [] f = refl
stack-still zero zero (x ∷ xs) f = absurd (f refl)
stack-still zero (suc m) (x ∷ xs) f = refl
stack-still (suc l) zero (x ∷ xs) f = refl
stack-still (suc l) (suc m) (x ∷ xs) f = stack-still l m xs (λ e. f (ap suc e))
