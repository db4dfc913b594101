-- What is kept of two lists by number, one after another.
use Rattle.std.proofs.Common.{◌≡◌, ℕ, zero, suc, ◌+◌, ◌<◌, ◌≤◌, Bool, true, false, cond, ◌==◌, ◌||◌, List, [], ◌∷◌, ◌++◌, Option, refl, sym, ap, ◌∙◌, subst, length, filter, take, drop, get_or, append_assoc, arith, eqb-true}
use Rattle.std.proofs.lemmas.Grind.{common_steps}
use Rattle.std.proofs.lemmas.Bool.{false_from_ne_true}
use Rattle.std.proofs.Math.Seq.{drop-cons}
use Rattle.std.specs.Prelude.{nat_lt}
use Rattle.com_model.specs.Lists.{is_member}
use Rattle.com_laws_safety.proofs.Small.{same-number}
use Rattle.com_ledger.specs.Falling.{placed, placed_in}

one-kept : (test : ℕ → Bool) (o : ℕ) (rest : List ℕ) → filter test (o ∷ []) ++ filter test rest ≡ filter test (o ∷ rest)
one-kept test o rest = elim (test o) as (λ b. cond b (o ∷ []) [] ++ filter test rest ≡ cond b (o ∷ filter test rest) (filter test rest)) [ true ↦ refl | false ↦ refl ]

pub keep_none : (test : ℕ → Bool) (old new : List ℕ) (o : ℕ) (rest : List ℕ) → new ≡ old ++ filter test (o ∷ []) → new ++ filter test rest ≡ old ++ filter test (o ∷ rest)
keep_none test old new o rest e =
    ap (λ (xs : List ℕ). xs ++ filter test rest) e ∙ append_assoc old (filter test (o ∷ [])) (filter test rest) ∙ ap (λ (xs : List ℕ). old ++ xs) (one-kept test o rest)

placed-before : (n o : ℕ) (rest : List ℕ) → n < o → placed n (o ∷ rest) ≡ n ∷ o ∷ rest
placed-before n o rest p =
    let e : nat_lt n o ≡ true = grind (arith, common_steps, p) in
    ap (λ (b : Bool). cond b (n ∷ o ∷ rest) (cond (n == o) (o ∷ rest) (o ∷ placed n rest))) e

placed-same : (n o : ℕ) (rest : List ℕ) → n ≡ o → placed n (o ∷ rest) ≡ o ∷ rest
placed-same n o rest p =
    let low : nat_lt n o ≡ false = grind (arith, common_steps, p) in
    let same : (n == o) ≡ true = subst (λ (m : ℕ). (n == m) ≡ true) p (same-number n) in
    ap (λ (b : Bool). cond b (n ∷ o ∷ rest) (cond (n == o) (o ∷ rest) (o ∷ placed n rest))) low ∙ ap (λ (b : Bool). cond b (o ∷ rest) (o ∷ placed n rest)) same

placed-behind : (n o : ℕ) (rest : List ℕ) → o ≤ n → (n ≡ o → ⊥) → placed n (o ∷ rest) ≡ o ∷ placed n rest
placed-behind n o rest p q =
    let low : nat_lt n o ≡ false = grind (arith, common_steps, p) in
    let other : (n == o) ≡ false = false_from_ne_true (n == o) (λ e. q (eqb-true n o e)) in
    ap (λ (b : Bool). cond b (n ∷ o ∷ rest) (cond (n == o) (o ∷ rest) (o ∷ placed n rest))) low ∙ ap (λ (b : Bool). cond b (o ∷ rest) (o ∷ placed n rest)) other

pub keep_both : (test : ℕ → Bool) (old one new : List ℕ) (n o : ℕ) (rest : List ℕ) → n < o → one ≡ old ++ filter test (n ∷ []) → new ≡ one ++ filter test (o ∷ [])
    → new ++ filter test rest ≡ old ++ filter test (placed n (o ∷ rest))
keep_both test old one new n o rest p e f =
    keep_none test one new o rest f ∙ keep_none test old one n (o ∷ rest) e ∙ ap (λ (xs : List ℕ). old ++ filter test xs) (sym (placed-before n o rest p))

pub keep_same : (test : ℕ → Bool) (old new : List ℕ) (n o : ℕ) (rest : List ℕ) → n ≡ o → new ≡ old ++ filter test (o ∷ []) → new ++ filter test rest ≡ old ++ filter test (placed n (o ∷ rest))
keep_same test old new n o rest p e = keep_none test old new o rest e ∙ ap (λ (xs : List ℕ). old ++ filter test xs) (sym (placed-same n o rest p))

pub keep_first : (test : ℕ → Bool) (old new : List ℕ) (n o : ℕ) (rest : List ℕ) → o ≤ n → (n ≡ o → ⊥) → new ≡ old ++ filter test (o ∷ [])
    → new ++ filter test (placed n rest) ≡ old ++ filter test (placed n (o ∷ rest))
keep_first test old new n o rest p q e = keep_none test old new o (placed n rest) e ∙ ap (λ (xs : List ℕ). old ++ filter test xs) (sym (placed-behind n o rest p q))

-- ---- one step of a loop over a list

pub next_at : (xs : List ℕ) (n : ℕ) → n < length xs → drop n xs ≡ get_or xs n 0 ∷ drop (n + 1) xs
next_at xs n h = let q : suc n ≡ n + 1 = omega arith in drop-cons xs n 0 h ∙ ap (λ (m : ℕ). get_or xs n 0 ∷ drop m xs) q

-- The list of those that are kept, with what is left to be looked at.
pub kept_on : (test : ℕ → Bool) (old new : List ℕ) (was is : Option ℕ) (items : List ℕ) (n o : ℕ) (all : List ℕ) → n < length items → o ≡ get_or items n 0
    → ((rest : List ℕ) → new ++ filter test (placed_in is rest) ≡ old ++ filter test (placed_in was (o ∷ rest)))
    → old ++ filter test (placed_in was (drop n items)) ≡ all → new ++ filter test (placed_in is (drop (n + 1) items)) ≡ all
kept_on test old new was is items n o all h e f p =
    f (drop (n + 1) items) ∙ ap (λ (xs : List ℕ). old ++ filter test (placed_in was xs)) (ap (λ (m : ℕ). m ∷ drop (n + 1) items) e ∙ sym (next_at items n h)) ∙ p

-- ---- a search

member-append : (o : ℕ) (xs ys : List ℕ) → is_member o (xs ++ ys) ≡ (is_member o xs || is_member o ys)
member-append o [] ys = refl
member-append o (x ∷ xs) ys = elim (o == x) as (λ b. (b || is_member o (xs ++ ys)) ≡ ((b || is_member o xs) || is_member o ys)) [ true ↦ refl | false ↦ member-append o xs ys ]

pub not_yet : (o x : ℕ) (xs : List ℕ) (n : ℕ) → n < length xs → x ≡ get_or xs n 0 → (x ≡ o → ⊥) → is_member o (take n xs) ≡ false → is_member o (take (n + 1) xs) ≡ false
not_yet o x [] n h e q p = absurd (omega (arith, h))
not_yet o x (y ∷ ys) zero h e q p =
    let other : (o == y) ≡ false = false_from_ne_true (o == y) (λ z. q (e ∙ sym (eqb-true o y z))) in
    let one : zero + 1 ≡ suc zero = omega arith in
    ap (λ (m : ℕ). is_member o (take m (y ∷ ys))) one ∙ ap (λ (b : Bool). b || false) other
not_yet o x (y ∷ ys) (suc n) h e q p =
    let one : suc n + 1 ≡ suc (n + 1) = omega arith in
    let here : (o == y) ≡ false = first-no (o == y) (is_member o (take n ys)) p in
    let rest : is_member o (take n ys) ≡ false = second-no (o == y) (is_member o (take n ys)) p in
    ap (λ (m : ℕ). is_member o (take m (y ∷ ys))) one ∙ ap (λ (b : Bool). b || is_member o (take (n + 1) ys)) here ∙ not_yet o x ys n (omega (arith, h)) e q rest
  where
    first-no : (a b : Bool) → (a || b) ≡ false → a ≡ false
    first-no true b e = e
    first-no false b e = refl

    second-no : (a b : Bool) → (a || b) ≡ false → b ≡ false
    second-no true b e = cc
    second-no false b e = e

pub found_at : (o x : ℕ) (xs : List ℕ) (n : ℕ) → n < length xs → x ≡ get_or xs n 0 → x ≡ o → is_member o xs ≡ true
found_at o x [] n h e q = absurd (omega (arith, h))
found_at o x (y ∷ ys) zero h e q =
    ap (λ (b : Bool). b || is_member o ys) (subst (λ (m : ℕ). (o == m) ≡ true) (sym q ∙ e) (same-number o))
found_at o x (y ∷ ys) (suc n) h e q = ap (λ (b : Bool). (o == y) || b) (found_at o x ys n (omega (arith, h)) e q) ∙ last-yes (o == y)
  where
    last-yes : (a : Bool) → (a || true) ≡ true
    last-yes true = refl
    last-yes false = refl
