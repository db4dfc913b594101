-- Lists of numbers that climb, and a number that is put in its place.
use Rattle.std.proofs.Common.{◌≡◌, refl, sym, ap, ◌∙◌, subst, arith, eqb, eqb-true, ℕ, zero, suc, Bool, true, false, ◌||◌, ◌+◌, ◌<◌, ◌≤◌, List, [], ◌∷◌, length, get_or}
use Rattle.std.proofs.lemmas.Grind.{common_steps}
use Rattle.std.proofs.lemmas.List.Sorted.{searched}
use Rattle.std.proofs.lemmas.Map.Lookups.{exact_unsigned}
use Rattle.std.specs.Prelude.{Err}
use Rattle.std.specs.declared.cmp.Ordering.TheVariants.{Equal}
use Rattle.std.specs.List.{insert}
use Rattle.std.specs.List.Sorted.{IsBinarySearchResult}
use Rattle.std.specs.Ordering.{nat_cmp}
use Rattle.com_model.specs.Lists.{is_member}
use Rattle.com_refs_rows.specs.Moving.{Climbs}

-- ---- members

or-turned : (a b : Bool) → (a || b) ≡ (b || a)
or-turned true true = refl
or-turned true false = refl
or-turned false true = refl
or-turned false false = refl

or-grouped : (a b c : Bool) → (a || (b || c)) ≡ ((a || b) || c)
or-grouped true b c = refl
or-grouped false b c = refl

pub member-inserted : (x y : ℕ) (xs : List ℕ) (i : ℕ) → is_member x (insert xs i y) ≡ (is_member x xs || eqb x y)
member-inserted x y [] zero = or-turned (eqb x y) false
member-inserted x y [] (suc i) = or-turned (eqb x y) false
member-inserted x y (z ∷ zs) zero = or-turned (eqb x y) (eqb x z || is_member x zs)
member-inserted x y (z ∷ zs) (suc i) = ap (λ (b : Bool). eqb x z || b) (member-inserted x y zs i) ∙ or-grouped (eqb x z) (is_member x zs) (eqb x y)

same-number : (x : ℕ) → eqb x x ≡ true
same-number x = grind (arith, common_steps)

member-at : (xs : List ℕ) (i y : ℕ) → i < length xs → get_or xs i 0 ≡ y → is_member y xs ≡ true
member-at [] i y h e = absurd (omega (arith, h))
member-at (x ∷ xs) zero y h e = subst (λ (k : ℕ). (eqb k x || is_member k xs) ≡ true) e (ap (λ (b : Bool). b || is_member x xs) (same-number x))
member-at (x ∷ xs) (suc i) y h e = ap (λ (b : Bool). eqb y x || b) (member-at xs i y (omega (arith, h)) e) ∙ or-turned (eqb y x) true

pub member-there : (x y : ℕ) (xs : List ℕ) (i : ℕ) → i < length xs → get_or xs i 0 ≡ y → is_member x xs ≡ (is_member x xs || eqb x y)
member-there x y xs i h e = elim (eqb x y) as (λ b. eqb x y ≡ b → is_member x xs ≡ (is_member x xs || b)) [
  | true ↦ λ q. subst (λ (k : ℕ). is_member k xs ≡ (is_member k xs || true)) (sym (eqb-true x y q)) (member-at xs i y h e ∙ sym (or-turned (is_member y xs) true))
  | false ↦ λ q. or-turned false (is_member x xs)
] refl

-- ---- order

climbs-low : (low : ℕ) (xs : List ℕ) (j : ℕ) → Climbs low xs → j < length xs → low ≤ get_or xs j 0
climbs-low low [] j c h = absurd (omega (arith, h))
climbs-low low (x ∷ xs) zero c h = c.0
climbs-low low (x ∷ xs) (suc j) c h = let first : low ≤ x = c.0 in let rest : x + 1 ≤ get_or xs j 0 = climbs-low (x + 1) xs j c.1 (omega (arith, h)) in omega (arith, first, rest)

pub climbs-order : (low : ℕ) (xs : List ℕ) → Climbs low xs → (i j : ℕ) → i ≤ j → j < length xs → get_or xs i 0 ≤ get_or xs j 0
climbs-order low [] c i j l h = absurd (omega (arith, h))
climbs-order low (x ∷ xs) c zero zero l h = omega arith
climbs-order low (x ∷ xs) c zero (suc j) l h = let rest : x + 1 ≤ get_or xs j 0 = climbs-low (x + 1) xs j c.1 (omega (arith, h)) in omega (arith, rest)
climbs-order low (x ∷ xs) c (suc i) zero l h = absurd (omega (arith, l))
climbs-order low (x ∷ xs) c (suc i) (suc j) l h = climbs-order (x + 1) xs c.1 i j (omega (arith, l)) (omega (arith, h))

pub climbs-inserted : (low : ℕ) (xs : List ℕ) (i y : ℕ) → Climbs low xs → low ≤ y → ((k : ℕ) → k < i → get_or xs k 0 < y) → ((k : ℕ) → i ≤ k → k < length xs → y < get_or xs k 0) → i ≤ length xs → Climbs low (insert xs i y)
climbs-inserted low [] zero y c l before behind h = (l, tt)
climbs-inserted low [] (suc i) y c l before behind h = absurd (omega (arith, h))
climbs-inserted low (x ∷ xs) zero y c l before behind h = let next : y < x = behind 0 (omega arith) (omega arith) in (l, (omega (arith, next), c.1))
climbs-inserted low (x ∷ xs) (suc i) y c l before behind h =
    let next : x < y = before 0 (omega arith) in
    (c.0, climbs-inserted (x + 1) xs i y c.1 (omega (arith, next)) (λ k m. before (suc k) (omega (arith, m))) (λ k m n. behind (suc k) (omega (arith, m)) (omega (arith, n))) (omega (arith, h)))

-- ---- a search

-- A number that was found is there already.
pub found-there : (x y : ℕ) (xs ys : List ℕ) (i : ℕ) → ys ≡ xs → i < length ys → ((d : ℕ) → nat_cmp (get_or ys i d) y ≡ Equal) → is_member x xs ≡ (is_member x xs || eqb x y)
found-there x y xs ys i e h found =
    let same : get_or ys i 0 ≡ y = exact_unsigned (get_or ys i 0) y (found 0) in
    subst (λ (l : List ℕ). is_member x l ≡ (is_member x l || eqb x y)) e (member-there x y ys i h same)

-- One that was not found is put where it was looked for.
pub put-there : (xs ys zs : List ℕ) (i y : ℕ) → ys ≡ xs → zs ≡ insert xs i y → IsBinarySearchResult (λ k. nat_cmp k y) ys (Err i) → Climbs 0 xs → Climbs 0 zs
put-there xs ys zs i y e f p c =
    let q : IsBinarySearchResult (λ k. nat_cmp k y) xs (Err i) = subst (λ (l : List ℕ). IsBinarySearchResult (λ k. nat_cmp k y) l (Err i)) e p in
    let r : (i ≤ length xs) × ((k : ℕ) → k < i → get_or xs k 0 < y) × ((k : ℕ) → i ≤ k → k < length xs → y < get_or xs k 0) = searched xs y (Err i) q (climbs-order 0 xs c) in
    subst (λ (l : List ℕ). Climbs 0 l) (sym f) (climbs-inserted 0 xs i y c (omega arith) r.1 r.2 r.0)
