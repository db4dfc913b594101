-- Lists of numbers: membership, no number twice, and how long such a list can be.
use Rattle.std.proofs.Common.{subst, sym, ap, ◌∙◌, ◌⊎◌, inl, inr, eqb-true, arith}
use Rattle.std.proofs.lemmas.Grind.{common_steps}
use Rattle.std.specs.Prelude.{◌≡◌, refl, ℕ, zero, suc, ◌+◌, ◌≤◌, Bool, true, false, cond, ◌==◌, ◌||◌, List, [], ◌∷◌, ◌++◌, length}
use Rattle.com_model.specs.Lists.{is_member, one_to}
use Rattle.com_laws_safety.proofs.Small.{not-both, or-left, or-right, or-second, neither, not-either, same-number}
use Rattle.com_laws_rings.specs.Rings.{AllDifferent}

pub flip : (x y : ℕ) (b : Bool) → (x == y) ≡ b → (y == x) ≡ b
flip x y true e = subst (λ (k : ℕ). (k == x) ≡ true) (eqb-true x y e) (same-number x)
flip x y false e = grind (arith, common_steps, e)

-- ---- members

pub member-head : (x : ℕ) (xs : List ℕ) → is_member x (x ∷ xs) ≡ true
member-head x xs = or-left (x == x) (is_member x xs) (same-number x)

or-assoc : (a b c : Bool) → ((a || b) || c) ≡ (a || (b || c))
or-assoc true b c = refl
or-assoc false b c = refl

pub member-append : (k : ℕ) (xs ys : List ℕ) → is_member k (xs ++ ys) ≡ (is_member k xs || is_member k ys)
member-append k [] ys = refl
member-append k (x ∷ xs) ys = ap (λ (b : Bool). k == x || b) (member-append k xs ys) ∙ sym (or-assoc (k == x) (is_member k xs) (is_member k ys))

or-turned : (a b : Bool) → (a || b) ≡ (b || a)
or-turned true true = refl
or-turned true false = refl
or-turned false true = refl
or-turned false false = refl

pub member-turned : (k : ℕ) (xs ys : List ℕ) → is_member k (xs ++ ys) ≡ is_member k (ys ++ xs)
member-turned k xs ys = member-append k xs ys ∙ or-turned (is_member k xs) (is_member k ys) ∙ sym (member-append k ys xs)

either-of : (a b : Bool) → (a || b) ≡ true → (a ≡ true) ⊎ (b ≡ true)
either-of true b e = inl refl
either-of false b e = inr e

pub no-member : {A : Type 0} (k : ℕ) → is_member k [] ≡ true → A
no-member k e = absurd (not-both false e refl)

pub one-member : (k x : ℕ) → is_member k (x ∷ []) ≡ true → k ≡ x
one-member k x e = eqb-true k x (left (k == x) e)
  where
    left : (b : Bool) → (b || false) ≡ true → b ≡ true
    left true e = refl
    left false e = e

pub member-end : (k : ℕ) (xs : List ℕ) (x : ℕ) → is_member k (xs ++ x ∷ []) ≡ true → (is_member k xs ≡ true) ⊎ (k ≡ x)
member-end k xs x e =
    elim (either-of (is_member k xs) (is_member k (x ∷ [])) (sym (member-append k xs (x ∷ [])) ∙ e)) as (λ _. (is_member k xs ≡ true) ⊎ (k ≡ x)) [
      | inl p ↦ inl p
      | inr p ↦ inr (one-member k x p)
    ]

-- ---- no number twice

pub different-end : (xs : List ℕ) (x : ℕ) → is_member x xs ≡ false → AllDifferent xs → AllDifferent (xs ++ x ∷ [])
different-end [] x n d = (refl, tt)
different-end (y ∷ ys) x n d =
    let z : ((x == y) ≡ false) × (is_member x ys ≡ false) = neither (x == y) (is_member x ys) n in
    (member-append y ys (x ∷ []) ∙ not-either (is_member y ys) (is_member y (x ∷ [])) d.0 (not-either (y == x) false (flip x y false z.0) refl), different-end ys x z.1 d.1)

put-between : (xs ys : List ℕ) (x : ℕ) → is_member x xs ≡ false → is_member x ys ≡ false → AllDifferent (xs ++ ys) → AllDifferent (xs ++ x ∷ ys)
put-between [] ys x n m d = (m, d)
put-between (y ∷ xs) ys x n m d =
    let z : ((x == y) ≡ false) × (is_member x xs ≡ false) = neither (x == y) (is_member x xs) n in
    let w : (is_member y xs ≡ false) × (is_member y ys ≡ false) = neither (is_member y xs) (is_member y ys) (sym (member-append y xs ys) ∙ d.0) in
    (member-append y xs (x ∷ ys) ∙ not-either (is_member y xs) (is_member y (x ∷ ys)) w.0 (not-either (y == x) (is_member y ys) (flip x y false z.0) w.1), put-between xs ys x z.1 m d.1)

pub nothing-behind : (xs : List ℕ) → xs ++ [] ≡ xs
nothing-behind [] = refl
nothing-behind (x ∷ xs) = ap (λ (ys : List ℕ). x ∷ ys) (nothing-behind xs)

pub different-turned : (xs ys : List ℕ) → AllDifferent (xs ++ ys) → AllDifferent (ys ++ xs)
different-turned [] ys d = subst AllDifferent (sym (nothing-behind ys)) d
different-turned (x ∷ xs) ys d =
    let z : (is_member x xs ≡ false) × (is_member x ys ≡ false) = neither (is_member x xs) (is_member x ys) (sym (member-append x xs ys) ∙ d.0) in
    put-between ys xs x z.1 z.0 (different-turned xs ys d.1)

-- ---- how long

take_out : ℕ → List ℕ → List ℕ
take_out x [] = []
take_out x (y ∷ ys) = cond (x == y) ys (y ∷ take_out x ys)

length-out : (x : ℕ) (ys : List ℕ) → is_member x ys ≡ true → length (take_out x ys) + 1 ≡ length ys
unfolding take_out
length-out x [] e = no-member x e
length-out x (y ∷ ys) e = by-test (x == y) e (length-out x ys)
  where
    by-test : (b : Bool) → (b || is_member x ys) ≡ true → (is_member x ys ≡ true → length (take_out x ys) + 1 ≡ length ys) → length (cond b ys (y ∷ take_out x ys)) + 1 ≡ suc (length ys)
    by-test true e f = omega arith
    by-test false e f = omega (arith, f e)

member-out : (k x : ℕ) (ys : List ℕ) → (k == x) ≡ false → is_member k ys ≡ true → is_member k (take_out x ys) ≡ true
unfolding take_out
member-out k x [] n e = no-member k e
member-out k x (y ∷ ys) n e = by-test (x == y) refl (member-out k x ys n)
  where
    by-test : (b : Bool) → (x == y) ≡ b → (is_member k ys ≡ true → is_member k (take_out x ys) ≡ true) → is_member k (cond b ys (y ∷ take_out x ys)) ≡ true
    by-test true z f = or-second (k == y) (is_member k ys) (subst (λ (j : ℕ). (k == j) ≡ false) (eqb-true x y z) n) e
    by-test false z f = kept (k == y) e
      where
        kept : (c : Bool) → (c || is_member k ys) ≡ true → (c || is_member k (take_out x ys)) ≡ true
        kept true q = refl
        kept false q = f q

-- Numbers that all stand in a list, none twice, are no more than it has.
pub within-length : (xs ys : List ℕ) → AllDifferent xs → ((k : ℕ) → is_member k xs ≡ true → is_member k ys ≡ true) → length xs ≤ length ys
within-length [] ys d c = omega arith
within-length (x ∷ xs) ys d c =
    let out : length (take_out x ys) + 1 ≡ length ys = length-out x ys (c x (member-head x xs)) in
    let rest : length xs ≤ length (take_out x ys) = within-length xs (take_out x ys) d.1 (λ k m. member-out k x ys (other k m (k == x) refl) (c k (or-right (k == x) (is_member k xs) m))) in
    more (length xs) (length (take_out x ys)) (length ys) out rest
  where
    other : (k : ℕ) → is_member k xs ≡ true → (b : Bool) → (k == x) ≡ b → b ≡ false
    other k m true z = absurd (not-both (is_member x xs) (subst (λ (j : ℕ). is_member j xs ≡ true) (eqb-true k x z) m) d.0)
    other k m false z = refl

    more : (a b c : ℕ) → b + 1 ≡ c → a ≤ b → suc a ≤ c
    more a b c e p = omega arith

-- ---- 1, 2, .., n

pub in-one-to : (n l : ℕ) → is_member l (one_to n) ≡ true → (1 ≤ l) × (l ≤ n)
in-one-to zero l e = no-member l e
in-one-to (suc n) l e =
    elim (member-end l (one_to n) (suc n) e) as (λ _. (1 ≤ l) × (l ≤ suc n)) [
      | inl p ↦ let q : (1 ≤ l) × (l ≤ n) = in-one-to n l p in (q.0, up l n q.1)
      | inr p ↦ (low l n p, high l n p)
    ]
  where
    up : (l n : ℕ) → l ≤ n → l ≤ suc n
    up l n p = omega arith

    low : (l n : ℕ) → l ≡ suc n → 1 ≤ l
    low l n p = omega arith

    high : (l n : ℕ) → l ≡ suc n → l ≤ suc n
    high l n p = omega arith

pub one-to-has : (n l : ℕ) → 1 ≤ l → l ≤ n → is_member l (one_to n) ≡ true
one-to-has zero l p q = absurd (omega (arith, p, q))
one-to-has (suc n) l p q = member-append l (one_to n) (suc n ∷ []) ∙ by-test (l == suc n) refl (one-to-has n l p)
  where
    below : (l == suc n) ≡ false → l ≤ n
    below z = grind (arith, common_steps, z, q)

    by-test : (b : Bool) → (l == suc n) ≡ b → (l ≤ n → is_member l (one_to n) ≡ true) → (is_member l (one_to n) || (b || false)) ≡ true
    by-test true z f = or-right (is_member l (one_to n)) (true || false) refl
    by-test false z f = or-left (is_member l (one_to n)) (false || false) (f (below z))
