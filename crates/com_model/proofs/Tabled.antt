-- Tables with a row for each number from 1 on: what a row holds after a step, and that no row stands outside of them.
use Rattle.std.proofs.Common.{subst, sym, ◌∙◌, ap, ap₂, eqb-true, arith}
use Rattle.std.proofs.lemmas.Bool.{ltb-true, ltb-false, false_from_ne_true}
use Rattle.std.proofs.lemmas.List.{get_or_past, get_or_append_left}
use Rattle.std.proofs.Math.Seq.{get_or-append_seam}
use Rattle.std.proofs.lemmas.Grind.{common_steps}
use Rattle.std.specs.Prelude.{◌≡◌, refl, ℕ, zero, suc, ◌+◌, ◌≤◌, ◌<◌, Bool, true, false, cond, ◌==◌, List, [], ◌∷◌, ◌++◌, length, slice_index_or, nat_lt}
use Rattle.com_refs_books.specs.Counting.{count_if}
use Rattle.com_model.specs.Lists.{each_from, from_one, tabulated}
use Rattle.com_model.specs.State.{grown}
use Rattle.com_model.proofs.Stands.{row-from}

-- A number that no row has.
pub data Outside (rows : ℕ) (c : ℕ) : Type 0 where
  at_zero : c ≡ 0 → Outside rows c
  above : rows < c → Outside rows c

pub length-grown : {X : Type 0} (b : Bool) (x : X) (xs : List X) → length (grown b x xs) ≡ count_if b + length xs
length-grown false x xs = grind (arith, common_steps)
length-grown true x xs = grind (arith, common_steps)

default-last : {X : Type 0} (xs : List X) (k : ℕ) (x : X) → slice_index_or (xs ++ x ∷ []) k x ≡ slice_index_or xs k x
default-last [] zero x = refl
default-last [] (suc k) x = refl
default-last (y ∷ xs) zero x = refl
default-last (y ∷ xs) (suc k) x = default-last xs k x

pub grown-row : {X : Type 0} (b : Bool) (xs : List X) (c : ℕ) (x : X) → from_one (grown b x xs) c x ≡ from_one xs c x
grown-row false xs c x = refl
grown-row true xs zero x = refl
grown-row true xs (suc k) x = default-last xs k x

stepped-row : {X : Type 0} (f : ℕ → X → X) (xs : List X) (k : ℕ) (x : X) → k < length xs → from_one (each_from f 1 xs) (suc k) x ≡ f (suc k) (from_one xs (suc k) x)
stepped-row f xs k x h = let e : 1 + k ≡ suc k = omega arith in subst (λ (m : ℕ). slice_index_or (each_from f 1 xs) k x ≡ f m (slice_index_or xs k x)) e (row-from f 1 xs k x h)

pub length-each : {X : Type 0} (f : ℕ → X → X) (n : ℕ) (xs : List X) → length (each_from f n xs) ≡ length xs
length-each f n [] = refl
length-each f n (x ∷ xs) = ap (λ (k : ℕ). suc k) (length-each f (n + 1) xs)

-- A table whose rows are f's values, and that grows by a row with the default and then takes a step in each row, has in each row
-- the step of f's value, where the step leaves the default of each number outside.
pub table-after : {X : Type 0} (step : ℕ → X → X) (xs : List X) (b : Bool) (x : X) (f : ℕ → X) (n : ℕ) → length xs ≡ n → ((c : ℕ) → from_one xs c x ≡ f c) → ((c : ℕ) → Outside (count_if b + n) c → step c x ≡ x) → (c : ℕ) → from_one (each_from step 1 (grown b x xs)) c x ≡ step c (f c)
table-after step xs b x f n e p q zero = sym (q zero (at_zero refl)) ∙ ap (step zero) (p zero)
table-after step xs b x f n e p q (suc k) = by-size (nat_lt k (length (grown b x xs))) refl
  where
    by-size : (t : Bool) → nat_lt k (length (grown b x xs)) ≡ t → from_one (each_from step 1 (grown b x xs)) (suc k) x ≡ step (suc k) (f (suc k))
    by-size true h = stepped-row step (grown b x xs) k x (ltb-true k (length (grown b x xs)) h) ∙ ap (step (suc k)) (grown-row b xs (suc k) x ∙ p (suc k))
    by-size false h =
        let z : length (grown b x xs) ≤ k = ltb-false k (length (grown b x xs)) h in
        let m : length (grown b x xs) ≡ count_if b + length xs = length-grown b x xs in
        get_or_past (each_from step 1 (grown b x xs)) k x (subst (λ (y : ℕ). y ≤ k) (sym (length-each step 1 (grown b x xs))) z)
        ∙ sym (q (suc k) (above (omega (arith, z, m, e))))
        ∙ ap (step (suc k)) (sym (get_or_past xs k x (omega (arith, z, m))) ∙ p (suc k))

-- A row after a step that leaves the default.
pub each-row : {X : Type 0} (step : ℕ → X → X) (xs : List X) (c : ℕ) (x : X) → ((k : ℕ) → step k x ≡ x) → from_one (each_from step 1 xs) c x ≡ step c (from_one xs c x)
each-row step xs c x p = table-after step xs false x (λ k. from_one xs k x) (length xs) refl (λ k. refl) (λ k o. p k) c

no-test : (a b : ℕ) → (a == b) ≡ false → a ≡ b → ⊥
no-test a b e q = let same : (a == a) ≡ true = grind (arith, common_steps) in let other : (a == a) ≡ false = subst (λ (k : ℕ). (a == k) ≡ false) (sym q) e in cc

same-test : (a b c d : ℕ) → (a ≡ b → c ≡ d) → (c ≡ d → a ≡ b) → (a == b) ≡ (c == d)
same-test a b c d f g = by-test (a == b) refl
  where
    by-test : (t : Bool) → (a == b) ≡ t → t ≡ (c == d)
    by-test true e = sym (subst (λ (k : ℕ). (c == k) ≡ true) (f (eqb-true a b e)) (grind (arith, common_steps)))
    by-test false e = sym (false_from_ne_true (c == d) (λ q. absurd (no-test a b e (g (eqb-true c d q)))))

-- A row at the end of a table, whose number is one more than the rows were.
appended : {X : Type 0} (xs : List X) (k : ℕ) (x y : X) → slice_index_or (xs ++ x ∷ []) k y ≡ cond (length xs == k) x (slice_index_or xs k y)
appended [] zero x y = refl
appended [] (suc k) x y = sym (ap (λ (b : Bool). cond b x y) (false_from_ne_true (0 == suc k) (λ q. let z : 0 ≡ suc k = eqb-true 0 (suc k) q in omega (arith, z))))
appended (z ∷ xs) zero x y = grind (arith, common_steps)
appended (z ∷ xs) (suc k) x y = appended xs k x y ∙ ap (λ (b : Bool). cond b x (slice_index_or xs k y)) (same-test (length xs) k (suc (length xs)) (suc k) (λ e. omega (arith, e)) (λ e. omega (arith, e)))

pub last-row : {X : Type 0} (xs : List X) (c n : ℕ) (x y : X) → n ≡ length xs + 1 → from_one (xs ++ x ∷ []) c y ≡ cond (n == c) x (from_one xs c y)
last-row xs zero n x y e = ap (λ (b : Bool). cond b x y) (sym (false_from_ne_true (n == 0) (λ q. let z : n ≡ 0 = eqb-true n 0 q in omega (arith, e, z))))
last-row xs (suc k) n x y e = appended xs k x y ∙ ap (λ (b : Bool). cond b x (slice_index_or xs k y)) (same-test (length xs) k n (suc k) (λ q. omega (arith, e, q)) (λ q. omega (arith, e, q)))

pub outside-row : {X : Type 0} (xs : List X) (n c : ℕ) (x : X) → length xs ≤ n → Outside n c → from_one xs c x ≡ x
outside-row xs n zero x p o = refl
outside-row xs n (suc k) x p (at_zero e) = absurd (omega (arith, e))
outside-row xs n (suc k) x p (above e) = get_or_past xs k x (omega (arith, p, e))

-- ---- tables of a function's values from number 0 on

pub length-tabulated : {X : Type 0} (n : ℕ) (f : ℕ → X) → length (tabulated n f) ≡ n
length-tabulated zero f = refl
length-tabulated (suc n) f = let ih : length (tabulated n f) ≡ n = length-tabulated n f in grind (arith, common_steps, ih)

lower : (n k m : ℕ) → m ≡ n → k < suc n → (n ≡ k → ⊥) → k < m
lower n k m e h d = by-test (nat_lt k m) refl
  where
    by-test : (t : Bool) → nat_lt k m ≡ t → k < m
    by-test true q = ltb-true k m q
    by-test false q = let z : m ≤ k = ltb-false k m q in absurd (d (omega (arith, z, e, h)))

pub within-tabulated : {X : Type 0} (n : ℕ) (f : ℕ → X) (k : ℕ) (x : X) → k < n → slice_index_or (tabulated n f) k x ≡ f k
within-tabulated zero f k x h = absurd (omega (arith, h))
within-tabulated (suc n) f k x h = by-test (n == k) refl (within-tabulated n f k x)
  where
    by-test : (t : Bool) → (n == k) ≡ t → (k < n → slice_index_or (tabulated n f) k x ≡ f k) → slice_index_or (tabulated n f ++ f n ∷ []) k x ≡ f k
    by-test true e ih =
        let z : n ≡ k = eqb-true n k e in
        let m : length (tabulated n f) ≡ k = length-tabulated n f ∙ z in
        subst (λ (j : ℕ). slice_index_or (tabulated n f ++ f n ∷ []) j x ≡ f n) m (get_or-append_seam (tabulated n f) (f n) [] x) ∙ ap f z
    by-test false e ih =
        let d : n ≡ k → ⊥ = no-test n k e in
        let m : length (tabulated n f) ≡ n = length-tabulated n f in
        get_or_append_left (tabulated n f) (f n ∷ []) x k (lower n k _ m h d) ∙ ih (lower n k n refl h d)

pub tabulated-row : {X : Type 0} (n : ℕ) (f : ℕ → X) (x : X) → ((k : ℕ) → n ≤ k → f k ≡ x) → (k : ℕ) → slice_index_or (tabulated n f) k x ≡ f k
tabulated-row n f x p k = by-size (nat_lt k n) refl
  where
    by-size : (t : Bool) → nat_lt k n ≡ t → slice_index_or (tabulated n f) k x ≡ f k
    by-size true h = within-tabulated n f k x (ltb-true k n h)
    by-size false h = let z : n ≤ k = ltb-false k n h in let m : length (tabulated n f) ≡ n = length-tabulated n f in get_or_past (tabulated n f) k x (omega (arith, z, m)) ∙ sym (p k z)

-- A row of a table, where the bound and the function are known in another form; and tables in one another.
pub rows-of : {X : Type 0} (n m : ℕ) (f g : ℕ → X) (x : X) → n ≡ m → f ≡ g → ((k : ℕ) → m ≤ k → g k ≡ x) → (k : ℕ) → slice_index_or (tabulated n f) k x ≡ g k
rows-of n m f g x e p q k = ap₂ (λ (y : ℕ) (z : ℕ → _). slice_index_or (tabulated y z) k x) e p ∙ tabulated-row m g x q k

in-rows : {X : Type 0} (n m : ℕ) (f : ℕ → ℕ → X) (x : X) → ((o k : ℕ) → n ≤ o → f o k ≡ x) → ((o k : ℕ) → m ≤ k → f o k ≡ x) → (o k : ℕ) → slice_index_or (slice_index_or (tabulated n (λ j. tabulated m (f j))) o []) k x ≡ f o k
in-rows n m f x p q o k = by-size (nat_lt o n) refl
  where
    by-size : (t : Bool) → nat_lt o n ≡ t → slice_index_or (slice_index_or (tabulated n (λ j. tabulated m (f j))) o []) k x ≡ f o k
    by-size true h = ap (λ (r : List _). slice_index_or r k x) (within-tabulated n (λ j. tabulated m (f j)) o [] (ltb-true o n h)) ∙ tabulated-row m (f o) x (q o) k
    by-size false h =
        let z : n ≤ o = ltb-false o n h in
        let t : length (tabulated n (λ j. tabulated m (f j))) ≡ n = length-tabulated n (λ j. tabulated m (f j)) in
        ap (λ (r : List _). slice_index_or r k x) (get_or_past (tabulated n (λ j. tabulated m (f j))) o [] (omega (arith, z, t))) ∙ get_or_past [] k x (omega arith) ∙ sym (p o k z)

pub rows-in-rows : {X : Type 0} (n n' m : ℕ) (f g : ℕ → ℕ → X) (x : X) → n ≡ n' → f ≡ g → ((o k : ℕ) → n' ≤ o → g o k ≡ x) → ((o k : ℕ) → m ≤ k → g o k ≡ x) → (o k : ℕ) → slice_index_or (slice_index_or (tabulated n (λ j. tabulated m (f j))) o []) k x ≡ g o k
rows-in-rows n n' m f g x e p q r o k = ap₂ (λ (y : ℕ) (z : ℕ → ℕ → _). slice_index_or (slice_index_or (tabulated y (λ j. tabulated m (z j))) o []) k x) e p ∙ in-rows n' m g x q r o k

deep-rows : {X : Type 0} (a n m : ℕ) (f : ℕ → ℕ → ℕ → X) (x : X) → ((c o k : ℕ) → a ≤ c → f c o k ≡ x) → ((c o k : ℕ) → n ≤ o → f c o k ≡ x) → ((c o k : ℕ) → m ≤ k → f c o k ≡ x) → (c o k : ℕ) → slice_index_or (slice_index_or (slice_index_or (tabulated a (λ i. tabulated n (λ j. tabulated m (f i j)))) c []) o []) k x ≡ f c o k
deep-rows a n m f x p q r c o k = by-size (nat_lt c a) refl
  where
    by-size : (t : Bool) → nat_lt c a ≡ t → slice_index_or (slice_index_or (slice_index_or (tabulated a (λ i. tabulated n (λ j. tabulated m (f i j)))) c []) o []) k x ≡ f c o k
    by-size true h = ap (λ (y : List (List _)). slice_index_or (slice_index_or y o []) k x) (within-tabulated a (λ i. tabulated n (λ j. tabulated m (f i j))) c [] (ltb-true c a h)) ∙ in-rows n m (f c) x (q c) (r c) o k
    by-size false h =
        let z : a ≤ c = ltb-false c a h in
        let t : length (tabulated a (λ i. tabulated n (λ j. tabulated m (f i j)))) ≡ a = length-tabulated a (λ i. tabulated n (λ j. tabulated m (f i j))) in
        ap (λ (y : List (List _)). slice_index_or (slice_index_or y o []) k x) (get_or_past (tabulated a (λ i. tabulated n (λ j. tabulated m (f i j)))) c [] (omega (arith, z, t)))
        ∙ ap (λ (y : List _). slice_index_or y k x) (get_or_past [] o [] (omega arith)) ∙ get_or_past [] k x (omega arith) ∙ sym (p c o k z)

pub rows-deep : {X : Type 0} (a a' n n' m : ℕ) (f g : ℕ → ℕ → ℕ → X) (x : X) → a ≡ a' → n ≡ n' → f ≡ g → ((c o k : ℕ) → a' ≤ c → g c o k ≡ x) → ((c o k : ℕ) → n' ≤ o → g c o k ≡ x) → ((c o k : ℕ) → m ≤ k → g c o k ≡ x) → (c o k : ℕ) → slice_index_or (slice_index_or (slice_index_or (tabulated a (λ i. tabulated n (λ j. tabulated m (f i j)))) c []) o []) k x ≡ g c o k
rows-deep a a' n n' m f g x d e p q r t c o k =
    ap₂ (λ (y z : ℕ). slice_index_or (slice_index_or (slice_index_or (tabulated y (λ i. tabulated z (λ j. tabulated m (f i j)))) c []) o []) k x) d e
    ∙ ap (λ (z : ℕ → ℕ → ℕ → _). slice_index_or (slice_index_or (slice_index_or (tabulated a' (λ i. tabulated n' (λ j. tabulated m (z i j)))) c []) o []) k x) p
    ∙ deep-rows a' n' m g x q r t c o k

pub no-row : {X : Type 0} (c : ℕ) (x : X) → from_one [] c x ≡ x
no-row zero x = refl
no-row (suc c) x = get_or_past [] c x (omega arith)

-- A table written again from its own rows.
pub tabulated-same : {X : Type 0} (n : ℕ) (f g : ℕ → X) → ((k : ℕ) → k < n → f k ≡ g k) → tabulated n f ≡ tabulated n g
tabulated-same zero f g p = refl
tabulated-same (suc n) f g p = ap₂ (λ (xs : List _) (x : _). xs ++ x ∷ []) (tabulated-same n f g (λ k h. p k (omega (arith, h)))) (p n (omega arith))

pub again : {X : Type 0} (n : ℕ) (f : ℕ → X) (x : X) → tabulated n (λ k. slice_index_or (tabulated n f) k x) ≡ tabulated n f
again n f x = tabulated-same n (λ k. slice_index_or (tabulated n f) k x) f (λ k h. within-tabulated n f k x h)

pub again-rows : {X : Type 0} (n m : ℕ) (f : ℕ → ℕ → X) (x : X) → tabulated n (λ o. tabulated m (λ k. slice_index_or (slice_index_or (tabulated n (λ j. tabulated m (f j))) o []) k x)) ≡ tabulated n (λ o. tabulated m (f o))
again-rows n m f x = tabulated-same n _ (λ o. tabulated m (f o)) (λ o h. ap (λ (r : List _). tabulated m (λ k. slice_index_or r k x)) (within-tabulated n (λ j. tabulated m (f j)) o [] h) ∙ again m (f o) x)

pub again-deep : {X : Type 0} (a n m : ℕ) (f : ℕ → ℕ → ℕ → X) (x : X) → tabulated a (λ c. tabulated n (λ o. tabulated m (λ k. slice_index_or (slice_index_or (slice_index_or (tabulated a (λ i. tabulated n (λ j. tabulated m (f i j)))) c []) o []) k x))) ≡ tabulated a (λ c. tabulated n (λ o. tabulated m (f c o)))
again-deep a n m f x = tabulated-same a _ (λ c. tabulated n (λ o. tabulated m (f c o))) (λ c h. ap (λ (r : List (List _)). tabulated n (λ o. tabulated m (λ k. slice_index_or (slice_index_or r o []) k x))) (within-tabulated a (λ i. tabulated n (λ j. tabulated m (f i j))) c [] h) ∙ again-rows n m (f c) x)
