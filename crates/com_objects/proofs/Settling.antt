-- The list of dying objects, without the one that was released and with those that are new, is what the definition makes of it.
use Rattle.std.proofs.Common.{◌≡◌, ℕ, zero, suc, ◌+◌, ◌<◌, ◌≤◌, Bool, true, false, not, cond, ◌==◌, ◌||◌, ◌&&◌, List, [], ◌∷◌, ◌++◌, Option, None, refl, sym, ◌∙◌, ap, ap₂, subst, ⊎_elim, arith, filter, eqb-true}
use Rattle.std.proofs.lemmas.Bool.{cases_eq, false_from_ne_true}
use Rattle.std.proofs.lemmas.Grind.{common_steps}
use Rattle.com_model.specs.Dying.{fallen_more}
use Rattle.com_model.specs.Lists.{is_member, one_to}
use Rattle.com_objects.specs.Settled.{DieBut, Rise, Falls, without}

still : (dying : ℕ → Bool) (freed : Option ℕ) (os : List ℕ) → DieBut dying freed os → filter dying os ≡ without freed os
still dying freed [] d = refl
still dying freed (o ∷ os) d = ap₂ (λ (b : Bool) (xs : List ℕ). cond b (o ∷ xs) xs) d.0 (still dying freed os d.1)

pub without_none : (os : List ℕ) → os ≡ without None os
without_none [] = refl
without_none (o ∷ os) = ap (λ (xs : List ℕ). o ∷ xs) (without_none os)

-- a + 1, a + 2, .., as many as k
up : ℕ → ℕ → List ℕ
up a zero = []
up a (suc k) = (a + 1) ∷ up (a + 1) k

up-more : (a k : ℕ) → up a (suc k) ≡ up a k ++ (a + suc k) ∷ []
unfolding up
up-more a zero = let z : a + 1 ≡ a + suc zero = omega arith in ap (λ (n : ℕ). n ∷ []) z
up-more a (suc k) =
    let z : (a + 1) + suc k ≡ a + suc (suc k) = omega arith in
    ap (λ (xs : List ℕ). (a + 1) ∷ xs) (up-more (a + 1) k ∙ ap (λ (n : ℕ). up (a + 1) k ++ n ∷ []) z)

one_to-up : (n : ℕ) → one_to n ≡ up 0 n
unfolding up
one_to-up zero = refl
one_to-up (suc n) =
    let z : suc n ≡ 0 + suc n = omega arith in
    ap₂ (λ (xs : List ℕ) (m : ℕ). xs ++ m ∷ []) (one_to-up n) z ∙ sym (up-more 0 n)

filter-up : (a k : ℕ) (p q : ℕ → Bool) → ((x : ℕ) → a < x → x ≤ a + k → p x ≡ q x) → filter p (up a k) ≡ filter q (up a k)
unfolding up
filter-up a zero p q h = refl
filter-up a (suc k) p q h =
    ap₂ (λ (b : Bool) (xs : List ℕ). cond b ((a + 1) ∷ xs) xs) (h (a + 1) (omega arith) (omega arith))
    (filter-up (a + 1) k p q (λ x l m. h x (omega (arith, l)) (omega (arith, m))))

none-up : (a k : ℕ) → filter (λ (x : ℕ). false) (up a k) ≡ []
unfolding up
none-up a zero = refl
none-up a (suc k) = none-up (a + 1) k

test-same : (x y : ℕ) → x ≡ y → (x == y) ≡ true
test-same x y e = subst (λ (z : ℕ). (x == z) ≡ true) e (grind (arith, common_steps))

test-other : (x y : ℕ) → (x ≡ y → ⊥) → (x == y) ≡ false
test-other x y ne = false_from_ne_true (x == y) (λ q. ne (eqb-true x y q))

member-low : (n : ℕ) (os : List ℕ) (m x : ℕ) → Rise n os m → x ≤ n → is_member x os ≡ false
member-low n [] m x r h = refl
member-low n (o ∷ os) m x r h =
    ap₂ (λ (b c : Bool). b || c) (test-other x o (λ e. absurd (omega (arith, e, r.0, h)))) (member-low o os m x r.1 (omega (arith, r.0, h)))

rise-top : (n : ℕ) (os : List ℕ) (m : ℕ) → Rise n os m → n ≤ m
rise-top n [] m r = r
rise-top n (o ∷ os) m r = let z : o ≤ m = rise-top o os m r.1 in omega (arith, z, r.0)

-- The members of a rising list, in their order, are the list.
rise-is : (k a : ℕ) (os : List ℕ) → Rise a os (a + k) → filter (λ x. is_member x os) (up a k) ≡ os
unfolding up
rise-is k a [] r = none-up a k
rise-is zero a (o ∷ os) r = let z : o ≤ a + 0 = rise-top o os (a + 0) r.1 in absurd (omega (arith, z, r.0))
rise-is (suc k) a (o ∷ os) r =
    let n : a + suc k ≡ (a + 1) + k = omega arith in
    ⊎_elim
    (λ same.
    let tail : Rise (a + 1) os ((a + 1) + k) = subst (λ (i : ℕ). Rise i os ((a + 1) + k)) (sym same) (subst (λ (m : ℕ). Rise o os m) n r.1) in
    ap (λ (b : Bool). cond (b || is_member (a + 1) os) ((a + 1) ∷ filter (λ x. is_member x (o ∷ os)) (up (a + 1) k)) (filter (λ x. is_member x (o ∷ os)) (up (a + 1) k))) (test-same (a + 1) o same)
    ∙ ap₂ (λ (i : ℕ) (xs : List ℕ). i ∷ xs) same
    (filter-up (a + 1) k (λ x. is_member x (o ∷ os)) (λ x. is_member x os) (λ x l h. ap (λ (b : Bool). b || is_member x os) (test-other x o (λ e. absurd (omega (arith, e, l, same)))))
    ∙ rise-is k (a + 1) os tail))
    (λ other.
    let above : a + 1 < o = omega (arith, r.0, other) in
    ap (λ (b : Bool). cond b ((a + 1) ∷ filter (λ x. is_member x (o ∷ os)) (up (a + 1) k)) (filter (λ x. is_member x (o ∷ os)) (up (a + 1) k)))
    (ap₂ (λ (b c : Bool). b || c) (test-other (a + 1) o other) (member-low o os (a + suc k) (a + 1) r.1 (omega (arith, above))))
    ∙ rise-is k (a + 1) (o ∷ os) (above, subst (λ (m : ℕ). Rise o os m) n r.1))
    (cases_eq (a + 1) o)

fresh-is : (dying : ℕ → Bool) (n : ℕ) (before fresh : List ℕ) → Falls dying n before fresh → fresh ≡ filter (λ o. dying o && not (is_member o before)) (one_to n)
fresh-is dying n before fresh f =
    let z : n ≡ 0 + n = omega arith in
    sym (rise-is n 0 fresh (subst (λ (m : ℕ). Rise 0 fresh m) z f.rise))
    ∙ filter-up 0 n (λ x. is_member x fresh) (λ o. dying o && not (is_member o before)) (λ x l h. f.each x (omega (arith, l)) (omega (arith, h)))
    ∙ ap (filter (λ o. dying o && not (is_member o before))) (sym (one_to-up n))

pub settled : (freed : Option ℕ) (before fresh : List ℕ) (dying : ℕ → Bool) (n : ℕ) → DieBut dying freed before → Falls dying n before fresh → without freed before ++ fresh ≡ fallen_more dying n before
settled freed before fresh dying n d f = ap₂ (λ (xs ys : List ℕ). xs ++ ys) (sym (still dying freed before d)) (fresh-is dying n before fresh f)
