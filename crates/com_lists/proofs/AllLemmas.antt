-- Lemmas on the lists of all heads: which holds a node, its neighbours, one list changed, one node gone.
use Rattle.std.proofs.Common.{◌≡◌, ◌≢◌, ℕ, ◌+◌, ◌<◌, ◌≤◌, List, [], ◌∷◌, ◌++◌, length, map, None, Some, false, cond, zero, suc, get_or, set, refl, arith}
use Rattle.std.proofs.lemmas.Bool.Decides.{nat_tests}
use Rattle.com_lists.specs.Linked.{times, times_in_all, holder_from, next_in_all, without}
use Rattle.com_lists.specs.Chain.{previous_in_all, last_or}
use Rattle.com_lists.proofs.ListLemmas.{names, times-without_same, times-without_other, times-append, without_absent, names-next, names-previous, names-last, next_in-without, previous_in-without, next_in-push, next_in-push_same, previous_in-push, previous_in-push_same}

-- a node in no list

pub holder_absent : (h x : ℕ) (xss : List (List ℕ)) → times_in_all x xss ≡ 0 → holder_from h x xss ≡ None
holder_absent h x [] e = refl
holder_absent h x (xs ∷ xss) e = grind (arith, nat_tests, holder_absent (h + 1) x xss)

pub next_absent : (x : ℕ) (xss : List (List ℕ)) → times_in_all x xss ≡ 0 → next_in_all x xss ≡ None
next_absent x [] e = refl
next_absent x (xs ∷ xss) e = grind (arith, nat_tests, next_absent x xss)

pub previous_absent : (x : ℕ) (xss : List (List ℕ)) → times_in_all x xss ≡ 0 → previous_in_all x xss ≡ None
previous_absent x [] e = refl
previous_absent x (xs ∷ xss) e = grind (arith, nat_tests, previous_absent x xss)

pub absent_from_holder : (h x : ℕ) (xss : List (List ℕ)) → holder_from h x xss ≡ None → times_in_all x xss ≡ 0
absent_from_holder h x [] e = refl
absent_from_holder h x (xs ∷ xss) e = grind (arith, nat_tests, absent_from_holder (h + 1) x xss)

pub holder-within : (h p x : ℕ) (xss : List (List ℕ)) → holder_from h x xss ≡ Some p → (h ≤ p) × (p < h + length xss)
holder-within h p x [] e = cc
holder-within h p x (xs ∷ xss) e = grind (arith, nat_tests, holder-within (h + 1) p x xss)

-- a node whose neighbour is in a list

pub names-next_in_all : (x y : ℕ) (xss : List (List ℕ)) → times_in_all y xss ≡ 0 → names (next_in_all x xss) y ≡ false
names-next_in_all x y [] e = refl
names-next_in_all x y (xs ∷ xss) e = grind (arith, nat_tests, names-next_in_all x y xss, names-next x y xs)

pub names-previous_in_all : (x y : ℕ) (xss : List (List ℕ)) → times_in_all y xss ≡ 0 → names (previous_in_all x xss) y ≡ false
names-previous_in_all x y [] e = refl
names-previous_in_all x y (xs ∷ xss) e = grind (arith, nat_tests, names-previous_in_all x y xss, names-previous x y None xs refl)

-- the lists without a node

pub without_absent_in_all : (x : ℕ) (xss : List (List ℕ)) → times_in_all x xss ≡ 0 → map (without x) xss ≡ xss
without_absent_in_all x [] e = refl
without_absent_in_all x (xs ∷ xss) e = grind (arith, nat_tests, without_absent x xs, without_absent_in_all x xss)

pub times_in_all-without_same : (x : ℕ) (xss : List (List ℕ)) → times_in_all x (map (without x) xss) ≡ 0
times_in_all-without_same x [] = refl
times_in_all-without_same x (xs ∷ xss) = grind (arith, times-without_same x xs, times_in_all-without_same x xss)

pub times_in_all-without_other : (x y : ℕ) (xss : List (List ℕ)) → y ≢ x → times_in_all y (map (without x) xss) ≡ times_in_all y xss
times_in_all-without_other x y [] ne = refl
times_in_all-without_other x y (xs ∷ xss) ne = grind (arith, times-without_other x y xs ne, times_in_all-without_other x y xss ne)

pub holder-without_other : (h x y : ℕ) (xss : List (List ℕ)) → y ≢ x → holder_from h y (map (without x) xss) ≡ holder_from h y xss
holder-without_other h x y [] ne = refl
holder-without_other h x y (xs ∷ xss) ne = grind (arith, nat_tests, times-without_other x y xs ne, holder-without_other (h + 1) x y xss ne)

pub next-without : (x y : ℕ) (xss : List (List ℕ)) → y ≢ x → times_in_all x xss ≤ 1 → times_in_all y xss ≤ 1
    → next_in_all y (map (without x) xss) ≡ cond (names (previous_in_all x xss) y) (next_in_all x xss) (next_in_all y xss)
next-without x y [] ne hx hy = refl
next-without x y (xs ∷ xss) ne hx hy =
    grind (arith, nat_tests, times-without_other x y xs ne, without_absent x xs, without_absent_in_all x xss, next_in-without x y None xs ne refl, names-previous x y None xs refl, names-previous_in_all x y xss, next-without x y xss ne)

pub previous-without : (x y : ℕ) (xss : List (List ℕ)) → y ≢ x → times_in_all x xss ≤ 1 → times_in_all y xss ≤ 1
    → previous_in_all y (map (without x) xss) ≡ cond (names (next_in_all x xss) y) (previous_in_all x xss) (previous_in_all y xss)
previous-without x y [] ne hx hy = refl
previous-without x y (xs ∷ xss) ne hx hy =
    grind (arith, nat_tests, times-without_other x y xs ne, without_absent x xs, without_absent_in_all x xss, previous_in-without x y None xs ne, names-next x y xs, names-next_in_all x y xss, previous-without x y xss ne)

-- the lists with one node more at the end of one

pub times-le_in_all : (y k : ℕ) (xss : List (List ℕ)) → times y (get_or xss k []) ≤ times_in_all y xss
times-le_in_all y k [] = omega arith
times-le_in_all y zero (xs ∷ xss) = omega arith
times-le_in_all y (suc k) (xs ∷ xss) = omega (arith, times-le_in_all y k xss)

pub times_in_all-push_same : (x k : ℕ) (xss : List (List ℕ)) → k < length xss → times_in_all x (set xss k (get_or xss k [] ++ x ∷ [])) ≡ times_in_all x xss + 1
times_in_all-push_same x k [] h = absurd (omega arith)
times_in_all-push_same x zero (xs ∷ xss) h = grind (arith, nat_tests, times-append x xs (x ∷ []))
times_in_all-push_same x (suc k) (xs ∷ xss) h = omega (arith, times_in_all-push_same x k xss (omega arith))

pub times_in_all-push_other : (x y k : ℕ) (xss : List (List ℕ)) → y ≢ x → times_in_all y (set xss k (get_or xss k [] ++ x ∷ [])) ≡ times_in_all y xss
times_in_all-push_other x y k [] ne = refl
times_in_all-push_other x y zero (xs ∷ xss) ne = grind (arith, nat_tests, times-append y xs (x ∷ []))
times_in_all-push_other x y (suc k) (xs ∷ xss) ne = omega (arith, times_in_all-push_other x y k xss ne)

pub holder-push_same : (h x k : ℕ) (xss : List (List ℕ)) → k < length xss → times_in_all x xss ≡ 0 → holder_from h x (set xss k (get_or xss k [] ++ x ∷ [])) ≡ Some (h + k)
holder-push_same h x k [] le e = absurd (omega arith)
holder-push_same h x zero (xs ∷ xss) le e = grind (arith, nat_tests, times-append x xs (x ∷ []))
holder-push_same h x (suc k) (xs ∷ xss) le e = grind (arith, nat_tests, holder-push_same (h + 1) x k xss)

pub holder-push_other : (h x y k : ℕ) (xss : List (List ℕ)) → y ≢ x → holder_from h y (set xss k (get_or xss k [] ++ x ∷ [])) ≡ holder_from h y xss
holder-push_other h x y k [] ne = refl
holder-push_other h x y zero (xs ∷ xss) ne = grind (arith, nat_tests, times-append y xs (x ∷ []))
holder-push_other h x y (suc k) (xs ∷ xss) ne = grind (arith, nat_tests, holder-push_other (h + 1) x y k xss ne)

pub next-push_same : (x k : ℕ) (xss : List (List ℕ)) → times_in_all x xss ≡ 0 → next_in_all x (set xss k (get_or xss k [] ++ x ∷ [])) ≡ None
next-push_same x k [] e = refl
next-push_same x zero (xs ∷ xss) e = grind (arith, nat_tests, times-append x xs (x ∷ []), next_in-push_same x xs)
next-push_same x (suc k) (xs ∷ xss) e = grind (arith, nat_tests, next-push_same x k xss)

pub next-push_other : (x y k : ℕ) (xss : List (List ℕ)) → y ≢ x → times_in_all y xss ≤ 1
    → next_in_all y (set xss k (get_or xss k [] ++ x ∷ [])) ≡ cond (names (last_or None (get_or xss k [])) y) (Some x) (next_in_all y xss)
next-push_other x y k [] ne hy = refl
next-push_other x y zero (xs ∷ xss) ne hy =
    grind (arith, nat_tests, times-append y xs (x ∷ []), next_in-push x y None xs ne refl, names-last y None xs refl)
next-push_other x y (suc k) (xs ∷ xss) ne hy =
    grind (arith, nat_tests, next-push_other x y k xss ne, times-le_in_all y k xss, names-last y None (get_or xss k []) refl)

pub previous-push_same : (x k : ℕ) (xss : List (List ℕ)) → k < length xss → times_in_all x xss ≡ 0
    → previous_in_all x (set xss k (get_or xss k [] ++ x ∷ [])) ≡ last_or None (get_or xss k [])
previous-push_same x k [] h e = absurd (omega arith)
previous-push_same x zero (xs ∷ xss) h e = grind (arith, nat_tests, times-append x xs (x ∷ []), previous_in-push_same x None xs)
previous-push_same x (suc k) (xs ∷ xss) h e = grind (arith, nat_tests, previous-push_same x k xss)

pub previous-push_other : (x y k : ℕ) (xss : List (List ℕ)) → y ≢ x → previous_in_all y (set xss k (get_or xss k [] ++ x ∷ [])) ≡ previous_in_all y xss
previous-push_other x y k [] ne = refl
previous-push_other x y zero (xs ∷ xss) ne = grind (arith, nat_tests, times-append y xs (x ∷ []), previous_in-push x y None xs ne)
previous-push_other x y (suc k) (xs ∷ xss) ne = grind (arith, nat_tests, previous-push_other x y k xss ne)
