-- How many sinks an event has still to reach.
use Rattle.std.proofs.Common.{refl, sym, ap, ◌∙◌, ◌⊎◌, inl, inr, arith}
use Rattle.std.proofs.lemmas.Bool.{ltb-true, ltb-false, lt-ltb, leb-true, le-leb}
use Rattle.std.proofs.lemmas.List.{length-append}
use Rattle.std.specs.Prelude.{◌≡◌, ℕ, ◌+◌, ◌≤◌, ◌<◌, ℤ, Bool, true, false, cond, ◌&&◌, nat_lt, nat_le, List, [], ◌∷◌, ◌++◌, length, Some, None}
use Rattle.com_laws_safety.proofs.Small.{not-both, and-left, and-right, and-both}
use Rattle.com_laws_sources.specs.Sinks.{Sink, is_cookie, without, first_between}
use Rattle.com_laws_sources.specs.Kept.{Rising}
use Rattle.com_laws_sources.specs.Histories.{reached}
use Rattle.com_laws_sources.specs.Deliveries.{Held}
use Rattle.com_laws_sources.proofs.Lists.{between-is, length-cons}

abbrev pub in_reach : (reached last : ℕ) → Sink → Bool
in_reach r l x = nat_lt r x.cookie && nat_le x.cookie l

abbrev pub between : (reached last : ℕ) → List Sink → ℕ
between r l [] = 0
between r l (x ∷ xs) = cond (in_reach r l x) (between r l xs + 1) (between r l xs)

within : (r l : ℕ) (x : Sink) → in_reach r l x ≡ true → (r < x.cookie) × (x.cookie ≤ l)
within r l x e = (ltb-true r x.cookie (and-left (nat_lt r x.cookie) (nat_le x.cookie l) e), leb-true x.cookie l (and-right (nat_lt r x.cookie) (nat_le x.cookie l) e))

is-within : (r l : ℕ) (x : Sink) → r < x.cookie → x.cookie ≤ l → in_reach r l x ≡ true
is-within r l x p q = and-both (nat_lt r x.cookie) (nat_le x.cookie l) (lt-ltb r x.cookie p) (le-leb x.cookie l q)

pub between-all : (r l : ℕ) (xs : List Sink) → between r l xs ≤ length xs
between-all r l [] = omega arith
between-all r l (x ∷ xs) =
    elim (in_reach r l x) as (λ t. cond t (between r l xs + 1) (between r l xs) ≤ length (x ∷ xs)) [
      | true ↦ omega (arith, length-cons x xs, between-all r l xs)
      | false ↦ omega (arith, length-cons x xs, between-all r l xs)
    ]

between-later : (r k l : ℕ) (xs : List Sink) → r ≤ k → between k l xs ≤ between r l xs
between-later r k l [] h = omega arith
between-later r k l (x ∷ xs) h = here (in_reach k l x) (in_reach r l x) refl refl (between-later r k l xs h)
  where
    here : (b c : Bool) → in_reach k l x ≡ b → in_reach r l x ≡ c → between k l xs ≤ between r l xs → cond b (between k l xs + 1) (between k l xs) ≤ cond c (between r l xs + 1) (between r l xs)
    here true true p q m = omega (arith, m)
    here true false p q m =
        let w : (k < x.cookie) × (x.cookie ≤ l) = within k l x p in
        let w0 : k < x.cookie = w.0 in
        absurd (not-both (in_reach r l x) (is-within r l x (omega (arith, h, w0)) w.1) q)
    here false true p q m = omega (arith, m)
    here false false p q m = m

-- One fewer, once the next one got it.
pub between-next : (r l : ℕ) (xs : List Sink) (to : Sink) → first_between r l xs ≡ Some to → between to.cookie l xs + 1 ≤ between r l xs
between-next r l [] to e = absurd (nothing e)
  where
    nothing : None ≡ Some to → ⊥
    nothing e = cc
between-next r l (x ∷ xs) to e = here (in_reach r l x) refl (in_reach to.cookie l x) refl (λ z. between-next r l xs to z) e
  where
    same : Some x ≡ Some to → x ≡ to
    same e = cc

    here : (b : Bool) → in_reach r l x ≡ b → (c : Bool) → in_reach to.cookie l x ≡ c → (first_between r l xs ≡ Some to → between to.cookie l xs + 1 ≤ between r l xs)
        → cond b (Some x) (first_between r l xs) ≡ Some to → cond c (between to.cookie l xs + 1) (between to.cookie l xs) + 1 ≤ cond b (between r l xs + 1) (between r l xs)
    here true p true q g z =
        let w : (to.cookie < x.cookie) × (x.cookie ≤ l) = within to.cookie l x q in
        let w0 : to.cookie < x.cookie = w.0 in
        let y : x.cookie ≡ to.cookie = ap (λ (k : Sink). k.cookie) (same z) in omega (arith, w0, y)
    here true p false q g z =
        let w : (r < x.cookie) × (x.cookie ≤ l) = within r l x p in
        let w0 : r < x.cookie = w.0 in
        let y : x.cookie ≡ to.cookie = ap (λ (k : Sink). k.cookie) (same z) in
        let m : between to.cookie l xs ≤ between r l xs = between-later r to.cookie l xs (omega (arith, w0, y)) in omega (arith, m)
    here false p true q g z =
        let w : (to.cookie < x.cookie) × (x.cookie ≤ l) = within to.cookie l x q in
        let w0 : to.cookie < x.cookie = w.0 in
        let v : (r < to.cookie) × (to.cookie ≤ l) = between-is r l xs to z in
        let v0 : r < to.cookie = v.0 in
        absurd (not-both (in_reach r l x) (is-within r l x (omega (arith, w0, v0)) w.1) p)
    here false p false q g z = g z

pub between-none : (r l : ℕ) (xs : List Sink) → between r l xs ≡ 0 → first_between r l xs ≡ None
between-none r l [] e = refl
between-none r l (x ∷ xs) e = here (in_reach r l x) (λ z. between-none r l xs z) e
  where
    some-left : between r l xs + 1 ≡ 0 → ⊥
    some-left z = omega (arith, z)

    here : (b : Bool) → (between r l xs ≡ 0 → first_between r l xs ≡ None) → cond b (between r l xs + 1) (between r l xs) ≡ 0 → cond b (Some x) (first_between r l xs) ≡ None
    here true g z = absurd (some-left z)
    here false g z = g z

pub between-without : (r l : ℕ) (n : ℤ) (xs : List Sink) → between r l (without n xs) ≤ between r l xs
between-without r l n [] = omega arith
between-without r l n (x ∷ xs) =
    elim (is_cookie n x.cookie) as (λ t. between r l (cond t xs (x ∷ without n xs)) ≤ between r l (x ∷ xs)) [
      | true ↦ less (in_reach r l x)
      | false ↦ rest (in_reach r l x) (between-without r l n xs)
    ]
  where
    less : (b : Bool) → between r l xs ≤ cond b (between r l xs + 1) (between r l xs)
    less true = omega arith
    less false = omega arith

    rest : (b : Bool) → between r l (without n xs) ≤ between r l xs → cond b (between r l (without n xs) + 1) (between r l (without n xs)) ≤ cond b (between r l xs + 1) (between r l xs)
    rest true m = omega (arith, m)
    rest false m = m

-- A sink that is past the last cookie changes nothing.
pub between-more : (r l : ℕ) (xs : List Sink) (y : Sink) → l < y.cookie → between r l (xs ++ (y ∷ [])) ≡ between r l xs
between-more r l [] y h = past (in_reach r l y) refl
  where
    past : (b : Bool) → in_reach r l y ≡ b → cond b (0 + 1) 0 ≡ 0
    past true e = let w : (r < y.cookie) × (y.cookie ≤ l) = within r l y e in let w1 : y.cookie ≤ l = w.1 in omega (arith, h, w1)
    past false e = refl
between-more r l (x ∷ xs) y h = ap (λ (k : ℕ). cond (in_reach r l x) (k + 1) k) (between-more r l xs y h)

-- ---- what stands among the sinks

pub nothing-left : (r l : ℕ) (xs : List Sink) (x : Sink) → first_between r l xs ≡ None → Held x xs → x.cookie ≤ l → x.cookie ≤ r
nothing-left r l [] x e m p = absurd m
nothing-left r l (y ∷ ys) x e m p = here (in_reach r l y) refl e m (λ z u. nothing-left r l ys x z u p)
  where
    some : Some y ≡ None → ⊥
    some e = cc

    past : (b : Bool) → nat_lt r x.cookie ≡ b → in_reach r l x ≡ false → x.cookie ≤ r
    past true u z = absurd (not-both (in_reach r l x) (is-within r l x (ltb-true r x.cookie u) p) z)
    past false u z = ltb-false r x.cookie u

    here : (b : Bool) → in_reach r l y ≡ b → cond b (Some y) (first_between r l ys) ≡ None → (y ≡ x) ⊎ Held x ys → (first_between r l ys ≡ None → Held x ys → x.cookie ≤ r) → x.cookie ≤ r
    here true z e m f = absurd (some e)
    here false z e (inl u) f = past (nat_lt r x.cookie) refl (sym (ap (in_reach r l) u) ∙ z)
    here false z e (inr u) f = f e u

pub rising-above : (b g : ℕ) (xs : List Sink) (x : Sink) → Rising b g xs → Held x xs → b < x.cookie
rising-above b g [] x p m = absurd m
rising-above b g (y ∷ ys) x p (inl u) = let q : b < y.cookie = p.0 in let z : y.cookie ≡ x.cookie = ap (λ (k : Sink). k.cookie) u in omega (arith, q, z)
rising-above b g (y ∷ ys) x p (inr u) = let q : b < y.cookie = p.0 in let z : y.cookie < x.cookie = rising-above y.cookie g ys x p.1 u in omega (arith, q, z)

-- Of what stands above the cookie that was reached, the next one is the first.
pub first-only : (r l b g : ℕ) (xs : List Sink) (to x : Sink) → Rising b g xs → first_between r l xs ≡ Some to → Held x xs → r < x.cookie → x.cookie ≤ to.cookie → to ≡ x
first-only r l b g [] to x p e m q w = absurd m
first-only r l b g (y ∷ ys) to x p e m q w = here (in_reach r l y) refl e m (λ z u. first-only r l y.cookie g ys to x p.1 z u q w)
  where
    same : Some y ≡ Some to → y ≡ to
    same e = cc

    here : (c : Bool) → in_reach r l y ≡ c → cond c (Some y) (first_between r l ys) ≡ Some to → (y ≡ x) ⊎ Held x ys → (first_between r l ys ≡ Some to → Held x ys → to ≡ x) → to ≡ x
    here true z e (inl u) f = sym (same e) ∙ u
    here true z e (inr u) f =
        let k : y.cookie ≡ to.cookie = ap (λ (k : Sink). k.cookie) (same e) in
        let n : y.cookie < x.cookie = rising-above y.cookie g ys x p.1 u in absurd (beyond k n)
      where
        beyond : y.cookie ≡ to.cookie → y.cookie < x.cookie → ⊥
        beyond k n = omega (arith, k, n, w)
    here false z e (inl u) f =
        let v : (r < to.cookie) × (to.cookie ≤ l) = between-is r l ys to e in
        let v1 : to.cookie ≤ l = v.1 in
        absurd (not-both (in_reach r l x) (is-within r l x q (omega (arith, v1, w))) (sym (ap (in_reach r l) u) ∙ z))
    here false z e (inr u) f = f e u

pub held-split : (x y : Sink) (xs : List Sink) → Held x (xs ++ (y ∷ [])) → Held x xs ⊎ (y ≡ x)
held-split x y [] (inl e) = inr e
held-split x y [] (inr m) = absurd m
held-split x y (z ∷ zs) (inl e) = inl (inl e)
held-split x y (z ∷ zs) (inr m) = elim (held-split x y zs m) as (λ _. Held x (z ∷ zs) ⊎ (y ≡ x)) [ inl u ↦ inl (inr u) | inr u ↦ inr u ]

pub held-left : (x y : Sink) (xs : List Sink) → Held x xs → Held x (xs ++ (y ∷ []))
held-left x y [] m = absurd m
held-left x y (z ∷ zs) (inl e) = inl e
held-left x y (z ∷ zs) (inr m) = inr (held-left x y zs m)

pub held-last : (x y : Sink) (xs : List Sink) → y ≡ x → Held x (xs ++ (y ∷ []))
held-last x y [] e = inl e
held-last x y (z ∷ zs) e = inr (held-last x y zs e)

pub held-without : (n : ℤ) (x : Sink) (xs : List Sink) → Held x (without n xs) → Held x xs
held-without n x [] m = m
held-without n x (y ∷ ys) m =
    elim (is_cookie n y.cookie) as (λ t. Held x (cond t ys (y ∷ without n ys)) → Held x (y ∷ ys)) [
      | true ↦ λ u. inr u
      | false ↦ λ u. either u (λ z. held-without n x ys z)
    ] m
  where
    either : (y ≡ x) ⊎ Held x (without n ys) → (Held x (without n ys) → Held x ys) → Held x (y ∷ ys)
    either (inl e) f = inl e
    either (inr u) f = inr (f u)

-- ---- the sinks that were reached

pub reached-more : (xs : List Sink) (x : Sink) → reached (xs ++ (x ∷ [])) ≡ x.cookie
reached-more [] x = refl
reached-more (y ∷ []) x = refl
reached-more (y ∷ z ∷ zs) x = reached-more (z ∷ zs) x

pub one-longer : (xs : List Sink) (x : Sink) → length (xs ++ (x ∷ [])) ≡ length xs + 1
one-longer xs x = length-append xs (x ∷ [])

pub reached-low : (b l : ℕ) (xs : List Sink) → Rising b l xs → reached xs ≤ l
reached-low b l [] p = omega arith
reached-low b l (x ∷ []) p = p.1
reached-low b l (x ∷ y ∷ ys) p = reached-low x.cookie l (y ∷ ys) p.1

above-first : (b l : ℕ) (z : Sink) (zs : List Sink) → Rising b l (z ∷ zs) → b < reached (z ∷ zs)
above-first b l z [] p = p.0
above-first b l z (y ∷ ys) p = let q : b < z.cookie = p.0 in let w : z.cookie < reached (y ∷ ys) = above-first z.cookie l y ys p.1 in omega (arith, q, w)

pub rising-next : (b l : ℕ) (xs : List Sink) (x : Sink) → Rising b l xs → b < x.cookie → reached xs < x.cookie → x.cookie ≤ l → Rising b l (xs ++ (x ∷ []))
rising-next b l [] x p k q w = (k, w)
rising-next b l (y ∷ []) x p k q w = (p.0, (q, w))
rising-next b l (y ∷ z ∷ zs) x p k q w =
    let v : y.cookie < reached (z ∷ zs) = above-first y.cookie l z zs p.1 in
    (p.0, rising-next y.cookie l (z ∷ zs) x p.1 (omega (arith, v, q)) q w)
