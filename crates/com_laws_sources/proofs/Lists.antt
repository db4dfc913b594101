-- Lists of sinks: cookies that rise, and what is first above a cookie.
use Rattle.std.proofs.Common.{refl, sym, ap, subst, ◌∙◌, arith}
use Rattle.std.proofs.lemmas.Bool.{ltb-true, ltb-false, lt-ltb, le-ltb, false_from_ne_true}
use Rattle.std.proofs.lemmas.Bool.Decides.{Decides-int_eq}
use Rattle.std.proofs.lemmas.Grind.{common_steps}
use Rattle.std.proofs.lemmas.Int.{wrapping_add_is, int_wrap_fits, fits_signed_from_abs}
use Rattle.std.proofs.Math.IntN.{pos-+ℤ-pos}
use Rattle.std.specs.Prelude.{◌≡◌, ℕ, ◌+◌, ◌≤◌, ◌<◌, ◌^◌, ℤ, pos, Bool, true, false, cond, ◌&&◌, nat_lt, nat_le, List, [], ◌∷◌, ◌++◌, length, Option, Some, None}
use Rattle.std.specs.Int.{w64, int_wrap, int_wrapping_add}
use Rattle.std.specs.Ordering.{int_eq}
use Rattle.com_base.specs.declared.value.RefValue.{RefValue}
use Rattle.com_laws_sources.specs.Sinks.{Sink, is_cookie, without, above, first_between}
use Rattle.com_laws_sources.specs.Kept.{Rising}

pub not-both : (b : Bool) → b ≡ true → b ≡ false → ⊥
not-both b p q = cc

-- ---- numbers

pub next-cookie : (m : ℕ) → m + 1 < 2 ^ 63 → int_wrapping_add w64 (pos m) (pos 1) ≡ pos (m + 1)
next-cookie m h =
    let low : m < 2 ^ 63 = omega (arith, h) in
    wrapping_add_is w64 (pos m) (pos 1) (fits_signed_from_abs w64 (pos m) low) (fits_signed_from_abs w64 (pos 1) (omega arith))
    ∙ ap (int_wrap w64) (pos-+ℤ-pos m 1) ∙ int_wrap_fits w64 (pos (m + 1)) (fits_signed_from_abs w64 (pos (m + 1)) h)

pos-same : (a b : ℕ) → pos a ≡ pos b → a ≡ b
pos-same a b e = cc

pub not-zero : (n : ℕ) → 0 < n → int_eq (pos n) (pos 0) ≡ false
not-zero n h = false_from_ne_true (int_eq (pos n) (pos 0)) (λ t. let z : n ≡ 0 = pos-same n 0 ((Decides-int_eq (pos n) (pos 0)).0 t) in omega (arith, z, h))

pub below-zero : (n : ℕ) → nat_lt n 0 ≡ false
below-zero n = le-ltb n 0 (omega arith)

-- ---- cookies that rise

pub rising-later : (b c last : ℕ) (xs : List Sink) → Rising b last xs → c ≤ b → Rising c last xs
rising-later b c last [] p h = let q : b ≤ last = p in omega (arith, q, h)
rising-later b c last (x ∷ xs) p h = let q : b < x.cookie = p.0 in (omega (arith, q, h), p.1)

pub rising-without : (b last : ℕ) (n : ℤ) (xs : List Sink) → Rising b last xs → Rising b last (without n xs)
rising-without b last n [] p = p
rising-without b last n (x ∷ xs) p =
    elim (is_cookie n x.cookie) as (λ t. Rising b last (cond t xs (x ∷ without n xs))) [
      | true ↦ let q : b < x.cookie = p.0 in rising-later x.cookie b last xs p.1 (omega (arith, q))
      | false ↦ (p.0, rising-without x.cookie last n xs p.1)
    ]

pub rising-last : (b last : ℕ) (xs : List Sink) → Rising b last xs → b ≤ last
rising-last b last [] p = p
rising-last b last (x ∷ xs) p = let q : b < x.cookie = p.0 in let r : x.cookie ≤ last = rising-last x.cookie last xs p.1 in omega (arith, q, r)

pub rising-more : (b last : ℕ) (held : Option RefValue) (xs : List Sink) → Rising b last xs → Rising b (last + 1) (xs ++ (record { cookie = last + 1; held = held } ∷ []))
rising-more b last held [] p = let q : b ≤ last = p in (omega (arith, q), omega arith)
rising-more b last held (x ∷ xs) p = (p.0, rising-more x.cookie last held xs p.1)

pub length-cons : (x : Sink) (xs : List Sink) → length (x ∷ xs) ≡ length xs + 1
length-cons x xs = grind (arith, common_steps)

pub length-without : (n : ℤ) (xs : List Sink) → length (without n xs) ≤ length xs
length-without n [] = omega arith
length-without n (x ∷ xs) =
    elim (is_cookie n x.cookie) as (λ t. length (cond t xs (x ∷ without n xs)) ≤ length (x ∷ xs)) [
      | true ↦ omega (arith, length-cons x xs)
      | false ↦ omega (arith, length-cons x xs, length-cons x (without n xs), length-without n xs)
    ]

-- ---- the first above a cookie

-- What is not past the last cookie.
abbrev pub at_most : ℕ → Option Sink → Option Sink
at_most last None = None
at_most last (Some x) = cond (nat_lt last x.cookie) None (Some x)

le-of-lt : (last k : ℕ) (b : Bool) → nat_lt last k ≡ b → nat_le k last ≡ cond b false true
le-of-lt last k true e = grind (arith, ltb-true last k e)
le-of-lt last k false e = grind (arith, ltb-false last k e)

none-past : (reached last b given : ℕ) (xs : List Sink) → Rising b given xs → last < b → first_between reached last xs ≡ None
none-past reached last b given [] p h = refl
none-past reached last b given (x ∷ xs) p h =
    let q : b < x.cookie = p.0 in
    let more : nat_lt last x.cookie ≡ true = lt-ltb last x.cookie (omega (arith, q, h)) in
    past (nat_lt reached x.cookie) (nat_le x.cookie last) (le-of-lt last x.cookie true more) (none-past reached last x.cookie given xs p.1 (omega (arith, q, h)))
  where
    past : (b c : Bool) → c ≡ false → first_between reached last xs ≡ None → cond (b && c) (Some x) (first_between reached last xs) ≡ None
    past true true e r = cc
    past true false e r = r
    past false c e r = r

pub between-above : (reached last b given : ℕ) (xs : List Sink) → Rising b given xs → first_between reached last xs ≡ at_most last (above reached xs)
between-above reached last b given [] p = refl
between-above reached last b given (x ∷ xs) p =
    here (nat_lt reached x.cookie) (nat_lt last x.cookie) refl (nat_le x.cookie last) (le-of-lt last x.cookie (nat_lt last x.cookie) refl) (between-above reached last x.cookie given xs p.1)
  where
    here : (b c : Bool) → nat_lt last x.cookie ≡ c → (d : Bool) → d ≡ cond c false true → first_between reached last xs ≡ at_most last (above reached xs) → cond (b && d) (Some x) (first_between reached last xs) ≡ at_most last (cond b (Some x) (above reached xs))
    here true true e true q r = cc
    here true true e false q r = none-past reached last x.cookie given xs p.1 (ltb-true last x.cookie e) ∙ sym (ap (λ (t : Bool). cond t None (Some x)) e)
    here true false e true q r = sym (ap (λ (t : Bool). cond t None (Some x)) e)
    here true false e false q r = cc
    here false c e d q r = r

-- What is found is above what was reached, and at most the last cookie.
pub between-is : (reached last : ℕ) (xs : List Sink) (x : Sink) → first_between reached last xs ≡ Some x → (reached < x.cookie) × (x.cookie ≤ last)
between-is reached last [] x e = absurd (nothing x e)
  where
    nothing : (x : Sink) → first_between reached last [] ≡ Some x → ⊥
    nothing x e = cc
between-is reached last (y ∷ ys) x e = here (nat_lt reached y.cookie) (nat_le y.cookie last) refl refl (λ q. between-is reached last ys x q) e
  where
    same : Some y ≡ Some x → y ≡ x
    same q = cc

    here : (b c : Bool) → nat_lt reached y.cookie ≡ b → nat_le y.cookie last ≡ c → (first_between reached last ys ≡ Some x → (reached < x.cookie) × (x.cookie ≤ last)) → cond (b && c) (Some y) (first_between reached last ys) ≡ Some x → (reached < x.cookie) × (x.cookie ≤ last)
    here true true p q r e = subst (λ (z : Sink). (reached < z.cookie) × (z.cookie ≤ last)) (same e) (ltb-true reached y.cookie p, grind (arith, q))
    here true false p q r e = r e
    here false c p q r e = r e
