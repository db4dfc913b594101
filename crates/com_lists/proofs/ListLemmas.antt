-- Lemmas on one list of nodes: how often a node stands there, its neighbours, and the list without it.
use Rattle.std.proofs.Common.{◌≡◌, ◌≢◌, ℕ, ◌+◌, ◌<◌, ◌≤◌, List, [], ◌∷◌, ◌++◌, length, Option, None, Some, Bool, false, cond, eqb, zero, suc, refl, sym, ⊎_elim, arith, slice_get}
use Rattle.std.proofs.lemmas.Bool.{cases_eq}
use Rattle.std.proofs.lemmas.Bool.Decides.{nat_tests}
use Rattle.com_lists.specs.Linked.{times, next_in, without}
use Rattle.com_lists.specs.Chain.{previous_in, last_or}

-- an option names a node
abbrev pub names : Option ℕ → ℕ → Bool
names None y = false
names (Some b) y = eqb b y

-- the first where the option is nothing, and else the second
abbrev pub if_none : Option ℕ → Option ℕ → Option ℕ → Option ℕ
if_none None a b = a
if_none (Some _) a b = b

-- how often a node stands in a list

pub times-without_same : (x : ℕ) (xs : List ℕ) → times x (without x xs) ≡ 0
times-without_same x [] = refl
times-without_same x (y ∷ ys) = grind (arith, nat_tests, times-without_same x ys)

pub times-without_other : (x y : ℕ) (xs : List ℕ) → y ≢ x → times y (without x xs) ≡ times y xs
times-without_other x y [] ne = refl
times-without_other x y (z ∷ zs) ne = grind (arith, nat_tests, times-without_other x y zs ne)

pub length-without : (x : ℕ) (xs : List ℕ) → length (without x xs) + times x xs ≡ length xs
length-without x [] = refl
length-without x (y ∷ ys) = grind (arith, nat_tests, length-without x ys)

pub without_absent : (x : ℕ) (xs : List ℕ) → times x xs ≡ 0 → without x xs ≡ xs
without_absent x [] e = refl
without_absent x (y ∷ ys) e = grind (arith, nat_tests, without_absent x ys)

pub times-append : (x : ℕ) (xs ys : List ℕ) → times x (xs ++ ys) ≡ times x xs + times x ys
times-append x [] ys = omega arith
times-append x (z ∷ zs) ys = grind (arith, nat_tests, times-append x zs ys)

pub times-without_le : (x y : ℕ) (xs : List ℕ) → times y (without x xs) ≤ times y xs
times-without_le x y xs =
    ⊎_elim (λ e. rw e (omega (arith, times-without_same x xs))) (λ ne. omega (arith, times-without_other x y xs ne)) (cases_eq y x)

times_within : (n y : ℕ) (xs : List ℕ) → ((w : ℕ) → suc n ≤ w → times w xs ≡ 0) → n ≤ y → times y (without n xs) ≡ 0
times_within n y xs within le =
    ⊎_elim (λ e. rw e (times-without_same n xs)) (λ ne. let gone = within y (omega (arith, ne)) in omega (arith, times-without_le n y xs)) (cases_eq y n)

-- as many nodes as stand in a list, each once, are at most as many as there are
pub length-le_from_once : (n : ℕ) (xs : List ℕ) → ((y : ℕ) → times y xs ≤ 1) → ((y : ℕ) → n ≤ y → times y xs ≡ 0) → length xs ≤ n
length-le_from_once zero [] once within = omega arith
length-le_from_once zero (y ∷ ys) once within = grind (arith, nat_tests, within y)
length-le_from_once (suc n) xs once within =
    let fewer = length-le_from_once n (without n xs) (λ y. omega (arith, once y, times-without_le n y xs)) (λ y le. times_within n y xs within le) in
    omega (arith, length-without n xs, once n)

-- a neighbour of a node is in its list

names-first : (y : ℕ) (xs : List ℕ) → times y xs ≡ 0 → names (slice_get xs 0) y ≡ false
names-first y [] e = refl
names-first y (z ∷ zs) e = grind (arith, nat_tests)

pub names-next : (x y : ℕ) (xs : List ℕ) → times y xs ≡ 0 → names (next_in x xs) y ≡ false
names-next x y [] e = refl
names-next x y (z ∷ zs) e = grind (arith, nat_tests, names-next x y zs, names-first y zs)

pub names-previous : (x y : ℕ) (b : Option ℕ) (xs : List ℕ) → names b y ≡ false → times y xs ≡ 0 → names (previous_in b x xs) y ≡ false
names-previous x y b [] n e = refl
names-previous x y b (z ∷ zs) n e = grind (arith, nat_tests, names-previous x y (Some z) zs)

pub names-last : (y : ℕ) (b : Option ℕ) (xs : List ℕ) → names b y ≡ false → times y xs ≡ 0 → names (last_or b xs) y ≡ false
names-last y b [] n e = n
names-last y b (z ∷ zs) n e = grind (arith, nat_tests, names-last y (Some z) zs)

pub next_in_absent : (x : ℕ) (xs : List ℕ) → times x xs ≡ 0 → next_in x xs ≡ None
next_in_absent x [] e = refl
next_in_absent x (z ∷ zs) e = grind (arith, nat_tests, next_in_absent x zs)

pub previous_in_absent : (x : ℕ) (b : Option ℕ) (xs : List ℕ) → times x xs ≡ 0 → previous_in b x xs ≡ None
previous_in_absent x b [] e = refl
previous_in_absent x b (z ∷ zs) e = grind (arith, nat_tests, previous_in_absent x (Some z) zs)

previous_in_some : (x z : ℕ) (xs : List ℕ) (a b : Option ℕ) → 0 < times x xs → if_none (previous_in (Some z) x xs) a b ≡ b
previous_in_some x z [] a b h = absurd (omega arith)
previous_in_some x z (w ∷ ws) a b h = grind (arith, nat_tests, previous_in_some x w ws a b)

last_or_some : (z : ℕ) (xs : List ℕ) (a b : Option ℕ) → if_none (last_or (Some z) xs) a b ≡ b
last_or_some z [] a b = refl
last_or_some z (w ∷ ws) a b = last_or_some w ws a b

-- a list without a node

pub next_in-without : (x y : ℕ) (b : Option ℕ) (xs : List ℕ) → y ≢ x → names b y ≡ false → times x xs ≤ 1 → times y xs ≤ 1
    → next_in y (without x xs) ≡ cond (names (previous_in b x xs) y) (next_in x xs) (next_in y xs)
next_in-without x y b [] ne nb hx hy = refl
next_in-without x y b (z ∷ []) ne nb hx hy = grind (arith, nat_tests)
next_in-without x y b (z ∷ w ∷ ws) ne nb hx hy =
    grind (arith, nat_tests, next_in-without x y (Some z) (w ∷ ws) ne, without_absent x ws, without_absent x (w ∷ ws), names-previous x y (Some w) ws)

pub previous_in-without : (x y : ℕ) (b : Option ℕ) (xs : List ℕ) → y ≢ x → times x xs ≤ 1 → times y xs ≤ 1
    → previous_in b y (without x xs) ≡ cond (names (next_in x xs) y) (previous_in b x xs) (previous_in b y xs)
previous_in-without x y b [] ne hx hy = refl
previous_in-without x y b (z ∷ []) ne hx hy = grind (arith, nat_tests)
previous_in-without x y b (z ∷ w ∷ ws) ne hx hy =
    grind (arith, nat_tests, previous_in-without x y (Some z) (w ∷ ws) ne, without_absent x (w ∷ ws), names-next x y (w ∷ ws))

pub first-without : (x : ℕ) (xs : List ℕ) → 0 < times x xs → times x xs ≤ 1
    → slice_get (without x xs) 0 ≡ if_none (previous_in None x xs) (next_in x xs) (slice_get xs 0)
first-without x [] h hx = refl
first-without x (z ∷ zs) h hx = grind (arith, nat_tests, without_absent x zs, previous_in_some x z zs (next_in x zs) (Some z))

pub last_or-without : (x : ℕ) (b : Option ℕ) (xs : List ℕ) → 0 < times x xs → times x xs ≤ 1
    → last_or b (without x xs) ≡ if_none (next_in x xs) (previous_in b x xs) (last_or b xs)
last_or-without x b [] h hx = absurd (omega arith)
last_or-without x b (z ∷ []) h hx = grind (arith, nat_tests)
last_or-without x b (z ∷ w ∷ ws) h hx = grind (arith, nat_tests, last_or-without x (Some z) (w ∷ ws), without_absent x (w ∷ ws))

-- a list with one node more at its end

pub next_in-push : (x y : ℕ) (b : Option ℕ) (xs : List ℕ) → y ≢ x → names b y ≡ false → times y xs ≤ 1
    → next_in y (xs ++ x ∷ []) ≡ cond (names (last_or b xs) y) (Some x) (next_in y xs)
next_in-push x y b [] ne nb hy = grind (arith, nat_tests)
next_in-push x y b (z ∷ []) ne nb hy = grind (arith, nat_tests)
next_in-push x y b (z ∷ w ∷ ws) ne nb hy = grind (arith, nat_tests, next_in-push x y (Some z) (w ∷ ws) ne, names-last y (Some w) ws)

pub next_in-push_same : (x : ℕ) (xs : List ℕ) → times x xs ≡ 0 → next_in x (xs ++ x ∷ []) ≡ None
next_in-push_same x [] e = grind (arith, nat_tests)
next_in-push_same x (z ∷ zs) e = grind (arith, nat_tests, next_in-push_same x zs)

pub previous_in-push : (x y : ℕ) (b : Option ℕ) (xs : List ℕ) → y ≢ x → previous_in b y (xs ++ x ∷ []) ≡ previous_in b y xs
previous_in-push x y b [] ne = grind (arith, nat_tests)
previous_in-push x y b (z ∷ zs) ne = grind (arith, nat_tests, previous_in-push x y (Some z) zs ne)

pub previous_in-push_same : (x : ℕ) (b : Option ℕ) (xs : List ℕ) → times x xs ≡ 0 → previous_in b x (xs ++ x ∷ []) ≡ last_or b xs
previous_in-push_same x b [] e = grind (arith, nat_tests)
previous_in-push_same x b (z ∷ zs) e = grind (arith, nat_tests, previous_in-push_same x (Some z) zs)

pub last_or-push : (x : ℕ) (b : Option ℕ) (xs : List ℕ) → last_or b (xs ++ x ∷ []) ≡ Some x
last_or-push x b [] = refl
last_or-push x b (z ∷ zs) = last_or-push x (Some z) zs

pub first-push : (x : ℕ) (xs : List ℕ) → slice_get (xs ++ x ∷ []) 0 ≡ if_none (last_or None xs) (Some x) (slice_get xs 0)
first-push x [] = refl
first-push x (z ∷ zs) = sym (last_or_some z zs (Some x) (Some z))
