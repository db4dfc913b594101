-- `advise` and `unadvise`, where the cells keep sinks.
use Rattle.std.proofs.Common.{refl, sym, ap, subst, ◌∙◌, ◌⊎◌, inl, inr, arith}
use Rattle.std.proofs.lemmas.List.{length-append}
use Rattle.std.specs.Prelude.{◌≡◌, ℕ, ◌+◌, ◌≤◌, ◌<◌, ◌^◌, ℤ, pos, Bool, true, false, cond, int_lt, List, [], ◌∷◌, ◌++◌, length, Option, Some, None}
use Rattle.std.specs.Int.{w64, int_wrapping_add}
use Rattle.std.specs.Ordering.{int_eq}
use Rattle.com_base.specs.declared.value.RefValue.{RefValue}
use Rattle.com_base.specs.declared.value.Value.TheVariants as value
use Rattle.com_body.specs.declared.actions.Action.TheVariants as action
use Rattle.com_body.specs.declared.frame.Cells.{Cells}
use Rattle.com_body.specs.declared.frame.Outcome.{Outcome}
use Rattle.com_body.specs.Frames.{FrameView, entered}
use Rattle.com_body.specs.Operands.{new_cells}
use Rattle.com_laws_sources.specs.Bodies.{ok, e_pointer, no_connection, advise_limit, advise_body}
use Rattle.com_laws_sources.specs.Alone.{alone}
use Rattle.com_laws_sources.specs.Sinks.{Sink, is_cookie, without, has_cookie}
use Rattle.com_laws_sources.specs.Kept.{Keeps, Rising, cells_of}
use Rattle.com_laws_sources.specs.Rounds.{number, Leaves}
use Rattle.com_laws_sources.proofs.Walks.{kept}
use Rattle.com_laws_sources.proofs.Takes.{advising, advised, advises}
use Rattle.com_laws_sources.proofs.Removes.{answers, unadvised, removes}
use Rattle.com_laws_sources.proofs.Lists.{not-both, next-cookie, not-zero, rising-more, rising-without, length-without}

abbrev pub advised-by : Option RefValue → Cells → Outcome
advised-by held c = alone advise_body 1 (entered (value.Ref held ∷ [])) c

-- A new object keeps no sinks.
pub fresh-keeps : Keeps new_cells [] 0
fresh-keeps = record { rest = pos 0 ∷ pos 0 ∷ pos 0 ∷ []; cells = refl; few = omega arith; rising = omega arith; fits = omega arith }

-- Null is refused.
pub advise-null : (c : Cells) (ps : List Sink) (m : ℕ) → Keeps c ps m → Leaves (advised-by None c) e_pointer None ps m
advise-null c ps m k = record { action = refl; keeps = k }

-- A choice that falls to the second.
second : {X : Type 0} (b : Bool) (x y : X) → b ≡ false → cond b x y ≡ y
second b x y e = ap (λ (t : Bool). cond t x y) e

too-many : (a b c d e : Sink) (ps : List Sink) → length (a ∷ b ∷ c ∷ d ∷ e ∷ ps) ≤ 4 → ⊥
too-many a b c d e ps q = omega (arith, q)

-- The cookies that rise are above 0.
above-0 : (x : Sink) (b : ℕ) → b < x.cookie → int_eq (pos x.cookie) (pos 0) ≡ false
above-0 x b q = not-zero x.cookie (omega (arith, q))

-- ---- where four sinks are held

fewer : (n : ℕ) → n < 4 → n ≡ 4 → ⊥
fewer n p q = omega (arith, p, q)

abbrev FullAt : RefValue → List Sink → (m : ℕ) → List ℤ → Type 0
FullAt r ps m ns =
    (g : FrameView) × (advised-by (Some r) (cells_of ps m ns) ≡ record { frame = g; cells = cells_of ps m ns; action = action.Leave advise_limit None })

full-at : (r : RefValue) (ps : List Sink) (m : ℕ) (ns : List ℤ) → Rising 0 m ps → length ps ≡ 4 → FullAt r ps m ns
full-at r [] m ns h q = absurd (fewer 0 (omega arith) q)
full-at r (a ∷ []) m ns h q = absurd (fewer 1 (omega arith) q)
full-at r (a ∷ b ∷ []) m ns h q = absurd (fewer 2 (omega arith) q)
full-at r (a ∷ b ∷ c ∷ []) m ns h q = absurd (fewer 3 (omega arith) q)
full-at r (a ∷ b ∷ c ∷ d ∷ []) m ns h q = (
  advising 34 (number d.cookie) (int_wrapping_add w64 (pos m) (pos 1)) (Some r),
  advises r (pos a.cookie) (pos b.cookie) (pos c.cookie) (pos d.cookie) (pos m) ns a.held b.held c.held d.held
      ∙ second (int_eq (pos a.cookie) (pos 0)) _ _ (above-0 a 0 h.0)
      ∙ second (int_eq (pos b.cookie) (pos 0)) _ _ (above-0 b a.cookie h.1.0)
      ∙ second (int_eq (pos c.cookie) (pos 0)) _ _ (above-0 c b.cookie h.1.1.0)
      ∙ second (int_eq (pos d.cookie) (pos 0)) _ _ (above-0 d c.cookie h.1.1.1.0),
)
full-at r (a ∷ b ∷ c ∷ d ∷ e ∷ ps) m ns h q = absurd (too-many a b c d e ps (omega (arith, q)))

keeps-of : (ps : List Sink) (m : ℕ) (c : Cells) (k : Keeps c ps m) → Keeps (cells_of ps m k.rest) ps m
keeps-of ps m c k = record { rest = k.rest; cells = refl; few = k.few; rising = k.rising; fits = k.fits }

pub advise-full : (r : RefValue) (c : Cells) (ps : List Sink) (m : ℕ) → Keeps c ps m → length ps ≡ 4 → Leaves (advised-by (Some r) c) advise_limit None ps m
advise-full r c ps m k q =
    let e : FullAt r ps m k.rest = full-at r ps m k.rest k.rising q in
    subst (λ (c : Cells). Leaves (advised-by (Some r) c) advise_limit None ps m) (sym k.cells)
    (subst (λ (o : Outcome). Leaves o advise_limit None ps m) (sym e.1) (record { action = refl; keeps = keeps-of ps m c k }))

-- ---- where a place is free

abbrev TakenAt : RefValue → List Sink → (m : ℕ) → List ℤ → Type 0
TakenAt r ps m ns =
    (p : FrameView) × (advised-by (Some r) (cells_of ps m ns) ≡ record {
      frame = p;
      cells = cells_of (ps ++ (record { cookie = m + 1; held = Some r } ∷ [])) (m + 1) ns;
      action = action.Leave ok (Some (number (m + 1)));
    })

taken-at : (r : RefValue) (ps : List Sink) (m : ℕ) (ns : List ℤ) → m + 1 < 2 ^ 63 → Rising 0 m ps → length ps < 4 → TakenAt r ps m ns
taken-at r [] m ns f h q = (
  advising 12 (number 0) (pos (m + 1)) (Some r),
  advises r (pos 0) (pos 0) (pos 0) (pos 0) (pos m) ns None None None None
      ∙ ap (λ (n : ℤ). advised 11 0 (pos 0) (Some r) n (kept (pos 0) (pos 0) (pos 0) (pos 0) (pos m) ns None None None None)) (next-cookie m f),
)
taken-at r (a ∷ []) m ns f h q = (
  advising 19 (number 0) (pos (m + 1)) (Some r),
  advises r (pos a.cookie) (pos 0) (pos 0) (pos 0) (pos m) ns a.held None None None
      ∙ second (int_eq (pos a.cookie) (pos 0)) _ _ (above-0 a 0 h.0)
      ∙ ap (λ (n : ℤ). advised 18 1 (pos 0) (Some r) n (kept (pos a.cookie) (pos 0) (pos 0) (pos 0) (pos m) ns a.held None None None)) (next-cookie m f),
)
taken-at r (a ∷ b ∷ []) m ns f h q = (
  advising 26 (number 0) (pos (m + 1)) (Some r),
  advises r (pos a.cookie) (pos b.cookie) (pos 0) (pos 0) (pos m) ns a.held b.held None None
      ∙ second (int_eq (pos a.cookie) (pos 0)) _ _ (above-0 a 0 h.0)
      ∙ second (int_eq (pos b.cookie) (pos 0)) _ _ (above-0 b a.cookie h.1.0)
      ∙ ap (λ (n : ℤ). advised 25 2 (pos 0) (Some r) n (kept (pos a.cookie) (pos b.cookie) (pos 0) (pos 0) (pos m) ns a.held b.held None None)) (next-cookie m f),
)
taken-at r (a ∷ b ∷ c ∷ []) m ns f h q = (
  advising 33 (number 0) (pos (m + 1)) (Some r),
  advises r (pos a.cookie) (pos b.cookie) (pos c.cookie) (pos 0) (pos m) ns a.held b.held c.held None
      ∙ second (int_eq (pos a.cookie) (pos 0)) _ _ (above-0 a 0 h.0)
      ∙ second (int_eq (pos b.cookie) (pos 0)) _ _ (above-0 b a.cookie h.1.0)
      ∙ second (int_eq (pos c.cookie) (pos 0)) _ _ (above-0 c b.cookie h.1.1.0)
      ∙ ap (λ (n : ℤ). advised 32 3 (pos 0) (Some r) n (kept (pos a.cookie) (pos b.cookie) (pos c.cookie) (pos 0) (pos m) ns a.held b.held c.held None)) (next-cookie m f),
)
taken-at r (a ∷ b ∷ c ∷ d ∷ ps) m ns f h q = absurd (wrong q)
  where
    wrong : length (a ∷ b ∷ c ∷ d ∷ ps) < 4 → ⊥
    wrong q = omega (arith, q)

one-longer : (xs : List Sink) (x : Sink) → length xs < 4 → length (xs ++ (x ∷ [])) ≤ 4
one-longer xs x h = let e : length (xs ++ (x ∷ [])) ≡ length xs + length (x ∷ []) = length-append xs (x ∷ []) in omega (arith, e, h)

pub advise-taken : (r : RefValue) (c : Cells) (ps : List Sink) (m : ℕ) → Keeps c ps m → length ps < 4 → m + 1 < 2 ^ 63
    → Leaves (advised-by (Some r) c) ok (Some (number (m + 1))) (ps ++ (record { cookie = m + 1; held = Some r } ∷ [])) (m + 1)
advise-taken r c ps m k q f =
    let x : Sink = record { cookie = m + 1; held = Some r } in
    let e : TakenAt r ps m k.rest = taken-at r ps m k.rest f k.rising q in
    subst (λ (c : Cells). Leaves (advised-by (Some r) c) ok (Some (number (m + 1))) (ps ++ (x ∷ [])) (m + 1)) (sym k.cells)
    (subst (λ (o : Outcome). Leaves o ok (Some (number (m + 1))) (ps ++ (x ∷ [])) (m + 1)) (sym e.1)
    (record { action = refl; keeps = record { rest = k.rest; cells = refl; few = one-longer ps x q; rising = rising-more 0 m (Some r) ps k.rising; fits = f } }))

-- ---- unadvise

-- What is answered, with the cells: by whether a sink has the cookie.
abbrev UnadvisedIn : ℤ → List Sink → (m : ℕ) → List ℤ → Outcome → Type 0
UnadvisedIn n ps m ns r =
    (int_lt (pos 0) n ≡ true → has_cookie n ps ≡ true → answers r ok (cells_of (without n ps) m ns))
    × (is_cookie n 0 ≡ false → (int_lt (pos 0) n ≡ true → has_cookie n ps ≡ false) → answers r no_connection (cells_of ps m ns))

yes : (n : ℤ) (ps qs : List Sink) (m : ℕ) (ns : List ℤ) (r : Outcome) → answers r ok (cells_of qs m ns) → without n ps ≡ qs → has_cookie n ps ≡ true → int_lt (pos 0) n ≡ true → UnadvisedIn n ps m ns r
yes n ps qs m ns r x e h t = (
  λ u v. subst (λ (xs : List Sink). answers r ok (cells_of xs m ns)) (sym e) x,
  λ z f. absurd (not-both (has_cookie n ps) h (f t)),
)

not-positive : (n : ℤ) (ps : List Sink) (m : ℕ) (ns : List ℤ) (r : Outcome) → answers r no_connection (cells_of ps m ns) → int_lt (pos 0) n ≡ false → UnadvisedIn n ps m ns r
not-positive n ps m ns r x u = (λ t v. absurd (not-both (int_lt (pos 0) n) t u), λ z f. x)

none-has : (n : ℤ) (ps : List Sink) (m : ℕ) (ns : List ℤ) (r : Outcome) → answers r no_connection (cells_of ps m ns) → has_cookie n ps ≡ false → UnadvisedIn n ps m ns r
none-has n ps m ns r x h = (λ t v. absurd (not-both (has_cookie n ps) v h), λ z f. x)

-- The number is 0 as a number of 64 bits.
no-number : (n : ℤ) (ps : List Sink) (m : ℕ) (ns : List ℤ) (r : Outcome) → is_cookie n 0 ≡ true → has_cookie n ps ≡ false → UnadvisedIn n ps m ns r
no-number n ps m ns r z h = (λ t v. absurd (not-both (has_cookie n ps) v h), λ y f. absurd (not-both (is_cookie n 0) z y))

has-here : (n : ℤ) (x : Sink) (xs : List Sink) → is_cookie n x.cookie ≡ true → has_cookie n (x ∷ xs) ≡ true
has-here n x xs e = ap (λ (t : Bool). cond t true (has_cookie n xs)) e

has-later : (n : ℤ) (x : Sink) (xs : List Sink) (b : Bool) → is_cookie n x.cookie ≡ false → has_cookie n xs ≡ b → has_cookie n (x ∷ xs) ≡ b
has-later n x xs b e h = ap (λ (t : Bool). cond t true (has_cookie n xs)) e ∙ h

goes-here : (n : ℤ) (x : Sink) (xs : List Sink) → is_cookie n x.cookie ≡ true → without n (x ∷ xs) ≡ xs
goes-here n x xs e = ap (λ (t : Bool). cond t xs (x ∷ without n xs)) e

goes-later : (n : ℤ) (x : Sink) (xs ys : List Sink) → is_cookie n x.cookie ≡ false → without n xs ≡ ys → without n (x ∷ xs) ≡ x ∷ ys
goes-later n x xs ys e h = ap (λ (t : Bool). cond t xs (x ∷ without n xs)) e ∙ ap (λ (zs : List Sink). x ∷ zs) h

unadvise-at : (n : ℤ) (ps : List Sink) (m : ℕ) (ns : List ℤ) → length ps ≤ 4 → UnadvisedIn n ps m ns (unadvised n (cells_of ps m ns))
unadvise-at n [] m ns q =
    removes (UnadvisedIn n [] m ns) n (pos 0) (pos 0) (pos 0) (pos 0) (pos m) ns None None None None
    (λ t t0 r x. no-number n [] m ns r t0 refl)
    (λ t u0 t1 r x. no-number n [] m ns r t1 refl)
    (λ t u0 u1 t2 r x. no-number n [] m ns r t2 refl)
    (λ t u0 u1 u2 t3 r x. no-number n [] m ns r t3 refl)
    (λ t u0 u1 u2 u3 r x. none-has n [] m ns r x refl)
    (λ u r x. not-positive n [] m ns r x u)
unadvise-at n (a ∷ []) m ns q =
    removes (UnadvisedIn n (a ∷ []) m ns) n (pos a.cookie) (pos 0) (pos 0) (pos 0) (pos m) ns a.held None None None
    (λ t t0 r x. yes n (a ∷ []) [] m ns r x (goes-here n a [] t0) (has-here n a [] t0) t)
    (λ t u0 t1 r x. no-number n (a ∷ []) m ns r t1 (has-later n a [] false u0 refl))
    (λ t u0 u1 t2 r x. no-number n (a ∷ []) m ns r t2 (has-later n a [] false u0 refl))
    (λ t u0 u1 u2 t3 r x. no-number n (a ∷ []) m ns r t3 (has-later n a [] false u0 refl))
    (λ t u0 u1 u2 u3 r x. none-has n (a ∷ []) m ns r x (has-later n a [] false u0 refl))
    (λ u r x. not-positive n (a ∷ []) m ns r x u)
unadvise-at n (a ∷ b ∷ []) m ns q =
    removes (UnadvisedIn n (a ∷ b ∷ []) m ns) n (pos a.cookie) (pos b.cookie) (pos 0) (pos 0) (pos m) ns a.held b.held None None
    (λ t t0 r x. yes n (a ∷ b ∷ []) (b ∷ []) m ns r x (goes-here n a (b ∷ []) t0) (has-here n a (b ∷ []) t0) t)
    (λ t u0 t1 r x. yes n (a ∷ b ∷ []) (a ∷ []) m ns r x (goes-later n a (b ∷ []) [] u0 (goes-here n b [] t1)) (has-later n a (b ∷ []) true u0 (has-here n b [] t1)) t)
    (λ t u0 u1 t2 r x. no-number n (a ∷ b ∷ []) m ns r t2 (has-later n a (b ∷ []) false u0 (has-later n b [] false u1 refl)))
    (λ t u0 u1 u2 t3 r x. no-number n (a ∷ b ∷ []) m ns r t3 (has-later n a (b ∷ []) false u0 (has-later n b [] false u1 refl)))
    (λ t u0 u1 u2 u3 r x. none-has n (a ∷ b ∷ []) m ns r x (has-later n a (b ∷ []) false u0 (has-later n b [] false u1 refl)))
    (λ u r x. not-positive n (a ∷ b ∷ []) m ns r x u)
unadvise-at n (a ∷ b ∷ c ∷ []) m ns q =
    removes (UnadvisedIn n (a ∷ b ∷ c ∷ []) m ns) n (pos a.cookie) (pos b.cookie) (pos c.cookie) (pos 0) (pos m) ns a.held b.held c.held None
    (λ t t0 r x. yes n (a ∷ b ∷ c ∷ []) (b ∷ c ∷ []) m ns r x (goes-here n a (b ∷ c ∷ []) t0) (has-here n a (b ∷ c ∷ []) t0) t)
    (λ t u0 t1 r x. yes n (a ∷ b ∷ c ∷ []) (a ∷ c ∷ []) m ns r x (goes-later n a (b ∷ c ∷ []) (c ∷ []) u0 (goes-here n b (c ∷ []) t1)) (has-later n a (b ∷ c ∷ []) true u0 (has-here n b (c ∷ []) t1)) t)
    (λ t u0 u1 t2 r x. yes n (a ∷ b ∷ c ∷ []) (a ∷ b ∷ []) m ns r x (goes-later n a (b ∷ c ∷ []) (b ∷ []) u0 (goes-later n b (c ∷ []) [] u1 (goes-here n c [] t2))) (has-later n a (b ∷ c ∷ []) true u0 (has-later n b (c ∷ []) true u1 (has-here n c [] t2))) t)
    (λ t u0 u1 u2 t3 r x. no-number n (a ∷ b ∷ c ∷ []) m ns r t3 (has-later n a (b ∷ c ∷ []) false u0 (has-later n b (c ∷ []) false u1 (has-later n c [] false u2 refl))))
    (λ t u0 u1 u2 u3 r x. none-has n (a ∷ b ∷ c ∷ []) m ns r x (has-later n a (b ∷ c ∷ []) false u0 (has-later n b (c ∷ []) false u1 (has-later n c [] false u2 refl))))
    (λ u r x. not-positive n (a ∷ b ∷ c ∷ []) m ns r x u)
unadvise-at n (a ∷ b ∷ c ∷ d ∷ []) m ns q =
    removes (UnadvisedIn n (a ∷ b ∷ c ∷ d ∷ []) m ns) n (pos a.cookie) (pos b.cookie) (pos c.cookie) (pos d.cookie) (pos m) ns a.held b.held c.held d.held
    (λ t t0 r x. yes n (a ∷ b ∷ c ∷ d ∷ []) (b ∷ c ∷ d ∷ []) m ns r x (goes-here n a (b ∷ c ∷ d ∷ []) t0) (has-here n a (b ∷ c ∷ d ∷ []) t0) t)
    (λ t u0 t1 r x. yes n (a ∷ b ∷ c ∷ d ∷ []) (a ∷ c ∷ d ∷ []) m ns r x (goes-later n a (b ∷ c ∷ d ∷ []) (c ∷ d ∷ []) u0 (goes-here n b (c ∷ d ∷ []) t1)) (has-later n a (b ∷ c ∷ d ∷ []) true u0 (has-here n b (c ∷ d ∷ []) t1)) t)
    (λ t u0 u1 t2 r x. yes n (a ∷ b ∷ c ∷ d ∷ []) (a ∷ b ∷ d ∷ []) m ns r x (goes-later n a (b ∷ c ∷ d ∷ []) (b ∷ d ∷ []) u0 (goes-later n b (c ∷ d ∷ []) (d ∷ []) u1 (goes-here n c (d ∷ []) t2))) (has-later n a (b ∷ c ∷ d ∷ []) true u0 (has-later n b (c ∷ d ∷ []) true u1 (has-here n c (d ∷ []) t2))) t)
    (λ t u0 u1 u2 t3 r x. yes n (a ∷ b ∷ c ∷ d ∷ []) (a ∷ b ∷ c ∷ []) m ns r x (goes-later n a (b ∷ c ∷ d ∷ []) (b ∷ c ∷ []) u0 (goes-later n b (c ∷ d ∷ []) (c ∷ []) u1 (goes-later n c (d ∷ []) [] u2 (goes-here n d [] t3)))) (has-later n a (b ∷ c ∷ d ∷ []) true u0 (has-later n b (c ∷ d ∷ []) true u1 (has-later n c (d ∷ []) true u2 (has-here n d [] t3)))) t)
    (λ t u0 u1 u2 u3 r x. none-has n (a ∷ b ∷ c ∷ d ∷ []) m ns r x (has-later n a (b ∷ c ∷ d ∷ []) false u0 (has-later n b (c ∷ d ∷ []) false u1 (has-later n c (d ∷ []) false u2 (has-later n d [] false u3 refl)))))
    (λ u r x. not-positive n (a ∷ b ∷ c ∷ d ∷ []) m ns r x u)
unadvise-at n (a ∷ b ∷ c ∷ d ∷ e ∷ ps) m ns q = absurd (too-many a b c d e ps q)

pub unadvise-removed : (n : ℤ) (c : Cells) (ps : List Sink) (m : ℕ) → Keeps c ps m → int_lt (pos 0) n ≡ true → has_cookie n ps ≡ true → Leaves (unadvised n c) ok None (without n ps) m
unadvise-removed n c ps m k t h =
    let e : answers (unadvised n (cells_of ps m k.rest)) ok (cells_of (without n ps) m k.rest) = (unadvise-at n ps m k.rest k.few).0 t h in
    subst (λ (c : Cells). Leaves (unadvised n c) ok None (without n ps) m) (sym k.cells)
    (record { action = e.0; keeps = record { rest = k.rest; cells = e.1; few = omega (arith, length-without n ps, k.few); rising = rising-without 0 m n ps k.rising; fits = k.fits } })

pub unadvise-none : (n : ℤ) (c : Cells) (ps : List Sink) (m : ℕ) → Keeps c ps m → is_cookie n 0 ≡ false → (int_lt (pos 0) n ≡ true → has_cookie n ps ≡ false) → Leaves (unadvised n c) no_connection None ps m
unadvise-none n c ps m k z f =
    let e : answers (unadvised n (cells_of ps m k.rest)) no_connection (cells_of ps m k.rest) = (unadvise-at n ps m k.rest k.few).1 z f in
    subst (λ (c : Cells). Leaves (unadvised n c) no_connection None ps m) (sym k.cells)
    (record { action = e.0; keeps = record { rest = k.rest; cells = e.1; few = k.few; rising = k.rising; fits = k.fits } })

-- Whatever the number is: a sink goes and the answer is S_OK, or the sinks stay. A number that is 0 as a number of 64 bits is found
-- at a free place, and then no sink goes.
abbrev EitherIn : ℤ → List Sink → (m : ℕ) → List ℤ → Outcome → Type 0
EitherIn n ps m ns r = answers r ok (cells_of (without n ps) m ns) ⊎ answers r no_connection (cells_of ps m ns)

gone : (n : ℤ) (ps qs : List Sink) (m : ℕ) (ns : List ℤ) (r : Outcome) → answers r ok (cells_of qs m ns) → without n ps ≡ qs → EitherIn n ps m ns r
gone n ps qs m ns r x e = inl (subst (λ (xs : List Sink). answers r ok (cells_of xs m ns)) (sym e) x)

either-at : (n : ℤ) (ps : List Sink) (m : ℕ) (ns : List ℤ) → length ps ≤ 4 → EitherIn n ps m ns (unadvised n (cells_of ps m ns))
either-at n [] m ns q =
    removes (EitherIn n [] m ns) n (pos 0) (pos 0) (pos 0) (pos 0) (pos m) ns None None None None
    (λ t t0 r x. gone n [] [] m ns r x refl)
    (λ t u0 t1 r x. gone n [] [] m ns r x refl)
    (λ t u0 u1 t2 r x. gone n [] [] m ns r x refl)
    (λ t u0 u1 u2 t3 r x. gone n [] [] m ns r x refl)
    (λ t u0 u1 u2 u3 r x. inr x)
    (λ u r x. inr x)
either-at n (a ∷ []) m ns q =
    removes (EitherIn n (a ∷ []) m ns) n (pos a.cookie) (pos 0) (pos 0) (pos 0) (pos m) ns a.held None None None
    (λ t t0 r x. gone n (a ∷ []) [] m ns r x (goes-here n a [] t0))
    (λ t u0 t1 r x. gone n (a ∷ []) (a ∷ []) m ns r x (goes-later n a [] [] u0 refl))
    (λ t u0 u1 t2 r x. gone n (a ∷ []) (a ∷ []) m ns r x (goes-later n a [] [] u0 refl))
    (λ t u0 u1 u2 t3 r x. gone n (a ∷ []) (a ∷ []) m ns r x (goes-later n a [] [] u0 refl))
    (λ t u0 u1 u2 u3 r x. inr x)
    (λ u r x. inr x)
either-at n (a ∷ b ∷ []) m ns q =
    removes (EitherIn n (a ∷ b ∷ []) m ns) n (pos a.cookie) (pos b.cookie) (pos 0) (pos 0) (pos m) ns a.held b.held None None
    (λ t t0 r x. gone n (a ∷ b ∷ []) (b ∷ []) m ns r x (goes-here n a (b ∷ []) t0))
    (λ t u0 t1 r x. gone n (a ∷ b ∷ []) (a ∷ []) m ns r x (goes-later n a (b ∷ []) [] u0 (goes-here n b [] t1)))
    (λ t u0 u1 t2 r x. gone n (a ∷ b ∷ []) (a ∷ b ∷ []) m ns r x (goes-later n a (b ∷ []) (b ∷ []) u0 (goes-later n b [] [] u1 refl)))
    (λ t u0 u1 u2 t3 r x. gone n (a ∷ b ∷ []) (a ∷ b ∷ []) m ns r x (goes-later n a (b ∷ []) (b ∷ []) u0 (goes-later n b [] [] u1 refl)))
    (λ t u0 u1 u2 u3 r x. inr x)
    (λ u r x. inr x)
either-at n (a ∷ b ∷ c ∷ []) m ns q =
    removes (EitherIn n (a ∷ b ∷ c ∷ []) m ns) n (pos a.cookie) (pos b.cookie) (pos c.cookie) (pos 0) (pos m) ns a.held b.held c.held None
    (λ t t0 r x. gone n (a ∷ b ∷ c ∷ []) (b ∷ c ∷ []) m ns r x (goes-here n a (b ∷ c ∷ []) t0))
    (λ t u0 t1 r x. gone n (a ∷ b ∷ c ∷ []) (a ∷ c ∷ []) m ns r x (goes-later n a (b ∷ c ∷ []) (c ∷ []) u0 (goes-here n b (c ∷ []) t1)))
    (λ t u0 u1 t2 r x. gone n (a ∷ b ∷ c ∷ []) (a ∷ b ∷ []) m ns r x (goes-later n a (b ∷ c ∷ []) (b ∷ []) u0 (goes-later n b (c ∷ []) [] u1 (goes-here n c [] t2))))
    (λ t u0 u1 u2 t3 r x. gone n (a ∷ b ∷ c ∷ []) (a ∷ b ∷ c ∷ []) m ns r x (goes-later n a (b ∷ c ∷ []) (b ∷ c ∷ []) u0 (goes-later n b (c ∷ []) (c ∷ []) u1 (goes-later n c [] [] u2 refl))))
    (λ t u0 u1 u2 u3 r x. inr x)
    (λ u r x. inr x)
either-at n (a ∷ b ∷ c ∷ d ∷ []) m ns q =
    removes (EitherIn n (a ∷ b ∷ c ∷ d ∷ []) m ns) n (pos a.cookie) (pos b.cookie) (pos c.cookie) (pos d.cookie) (pos m) ns a.held b.held c.held d.held
    (λ t t0 r x. gone n (a ∷ b ∷ c ∷ d ∷ []) (b ∷ c ∷ d ∷ []) m ns r x (goes-here n a (b ∷ c ∷ d ∷ []) t0))
    (λ t u0 t1 r x. gone n (a ∷ b ∷ c ∷ d ∷ []) (a ∷ c ∷ d ∷ []) m ns r x (goes-later n a (b ∷ c ∷ d ∷ []) (c ∷ d ∷ []) u0 (goes-here n b (c ∷ d ∷ []) t1)))
    (λ t u0 u1 t2 r x. gone n (a ∷ b ∷ c ∷ d ∷ []) (a ∷ b ∷ d ∷ []) m ns r x (goes-later n a (b ∷ c ∷ d ∷ []) (b ∷ d ∷ []) u0 (goes-later n b (c ∷ d ∷ []) (d ∷ []) u1 (goes-here n c (d ∷ []) t2))))
    (λ t u0 u1 u2 t3 r x. gone n (a ∷ b ∷ c ∷ d ∷ []) (a ∷ b ∷ c ∷ []) m ns r x (goes-later n a (b ∷ c ∷ d ∷ []) (b ∷ c ∷ []) u0 (goes-later n b (c ∷ d ∷ []) (c ∷ []) u1 (goes-later n c (d ∷ []) [] u2 (goes-here n d [] t3)))))
    (λ t u0 u1 u2 u3 r x. inr x)
    (λ u r x. inr x)
either-at n (a ∷ b ∷ c ∷ d ∷ e ∷ ps) m ns q = absurd (too-many a b c d e ps q)

pub unadvise-either : (n : ℤ) (c : Cells) (ps : List Sink) (m : ℕ) → Keeps c ps m → Leaves (unadvised n c) ok None (without n ps) m ⊎ Leaves (unadvised n c) no_connection None ps m
unadvise-either n c ps m k =
    subst (λ (c : Cells). Leaves (unadvised n c) ok None (without n ps) m ⊎ Leaves (unadvised n c) no_connection None ps m) (sym k.cells) (by-answer (either-at n ps m k.rest k.few))
  where
    by-answer : EitherIn n ps m k.rest (unadvised n (cells_of ps m k.rest)) → Leaves (unadvised n (cells_of ps m k.rest)) ok None (without n ps) m ⊎ Leaves (unadvised n (cells_of ps m k.rest)) no_connection None ps m
    by-answer (inl e) = inl (record { action = e.0; keeps = record { rest = k.rest; cells = e.1; few = omega (arith, length-without n ps, k.few); rising = rising-without 0 m n ps k.rising; fits = k.fits } })
    by-answer (inr e) = inr (record { action = e.0; keeps = record { rest = k.rest; cells = e.1; few = k.few; rising = k.rising; fits = k.fits } })
