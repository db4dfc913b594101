-- The boxes of a lane nest, since what is open in it is a stack.
use Rattle.std.proofs.Common.{◌≡◌, ℕ, List, [], ◌∷◌, ◌++◌, ◌+◌, ◌-◌, ◌<◌, ◌≤◌, length, ◌⊎◌, inl, inr, Bool, true, false, ◌==◌, not, take}
use Rattle.std.proofs.Common.{refl, ap, sym, subst, ◌∙◌, arith, append-nil, if◌then◌else◌}
use Rattle.std.specs.Prelude.{Option, Some, slice_get}
use Rattle.std.proofs.lemmas.Bool.{eqb-false, eqb-true, eq-eqb}
use Rattle.com_draw_state.specs.declared.stacks.Opened.{Opened}
use Rattle.com_draw_state.specs.declared.stacks.Opening.{Opening}
use Rattle.com_draw_state.specs.declared.stacks.Start.{Start}
use Rattle.com_draw_state.specs.Stacks.{outer}
use Rattle.com_draw_words.specs.declared.boxes.Foot.{Foot}
use Rattle.com_draw_words.specs.declared.boxes.Foot.TheVariants as foot
use Rattle.com_draw_shapes.specs.Boxes.{opening_box}
use Rattle.com_laws_draw.specs.Boxes.{AllNest, Each, LieWell, Placed, above, around, box_of, box_of_innermost, boxes_below, elsewhere, inside, is_down, placed}
use Rattle.com_laws_draw.proofs.Lists.{each_append, each_behind, each_both, each_front, each_weaker, ended, front_of, last_length, last_of}

-- ---- what holds while a section is drawn

-- what is open began in a section up to this one, and above this row in this one
abbrev pub Begun : (s r : ℕ) → Opening → Type 0
Begun s r o = (o.start.section ≤ s) × (o.start.section ≡ s → o.start.row < r)

-- a box was drawn in a section up to this one, and above this row in this one
abbrev pub Past : (s r : ℕ) → Placed → Type 0
Past s r x = (x.section ≤ s) × (x.section ≡ s → x.box.row < r)

-- what is deeper began later
abbrev pub Later : (s : ℕ) → Opening → Opening → Type 0
Later s o p = o.start.section ≡ s → (p.start.section ≡ s) × (o.start.row < p.start.row)

abbrev pub Sorted : (s : ℕ) → List Opening → Type 0
Sorted s [] = Unit {0}
Sorted s (o ∷ os) = Each (Later s o) os × Sorted s os

-- a box of this section is above what is open at a depth, or stays inside of it
abbrev pub Above : (s : ℕ) → Opening → Placed → Type 0
Above s o x = (o.start.section ≡ s) × (x.box.row < o.start.row)

abbrev pub Held : (s d : ℕ) → Opening → Placed → Type 0
Held s d o x = (d < x.box.level) × (o.start.section ≡ s → o.start.row < x.box.top)

abbrev pub Under : (s d : ℕ) → Opening → Placed → Type 0
Under s d o x = x.section ≡ s → Above s o x ⊎ Held s d o x

abbrev pub UnderAll : (s d : ℕ) → List Opening → Placed → Type 0
UnderAll s d [] x = Unit {0}
UnderAll s d (o ∷ os) x = Under s d o x × UnderAll s (d + 1) os x

pub record Drawing (s r : ℕ) (os : List Opening) (xs : List Placed) : Type 0 where
  pub begun : Each (Begun s r) os
  pub sorted : Sorted s os
  pub past : Each (Past s r) xs
  pub under : Each (UnderAll s 1 os) xs
  pub nest : AllNest xs

-- ---- two boxes

abbrev pub row_of : (section row : ℕ) → Start
row_of s r = record { section = s; row = r }

abbrev pub boxed : (s r l : ℕ) → Foot → (d : ℕ) → Opening → Placed
boxed s r l f d o = placed (row_of s r) (opening_box (row_of s r) l f d o)

-- a box ends above the last row of another, or in it where that goes on below
abbrev pub Reaches : Foot → (last r : ℕ) → Type 0
Reaches f last r = (last < r) ⊎ ((is_down f ≡ true) × (last ≤ r))

pub low_top : (s n row top : ℕ) → (n ≡ s → row < top) → (b : Bool) → (n == s) ≡ b
    → ((if n == s then row else 0) < top) ⊎ ((not (n == s) ≡ true) × ((if n == s then row else 0) ≤ top))
low_top s n row top h true e =
    inl (subst (λ (c : Bool). (if c then row else 0) < top) (sym e) (h (eqb-true n s e)))
low_top s n row top h false e =
    inr (ap not e, subst (λ (c : Bool). (if c then row else 0) ≤ top) (sym e) (omega arith))

pub high_top : (s n row last : ℕ) → n ≡ s → last < row → last < (if n == s then row else 0)
high_top s n row last e h = subst (λ (c : Bool). last < (if c then row else 0)) (sym (eq-eqb n s e)) h

by_place : (s r l d : ℕ) (f : Foot) (o : Opening) (x : Placed) → Above s o x ⊎ Held s d o x → Reaches f x.box.row r
    → LieWell x (boxed s r l f d o)
by_place s r l d f o x (inl a) g = above (high_top s o.start.section o.start.row x.box.row a.0 a.1)
by_place s r l d f o x (inr h) g = inside (record {
  deeper = h.0;
  begins = low_top s o.start.section o.start.row x.box.top h.1 (o.start.section == s) refl;
  ends = g;
})

-- a box, and that of something which stood open
lie_well : (s r l d : ℕ) (f : Foot) (o : Opening) (x : Placed) → Under s d o x → (x.section ≡ s → Reaches f x.box.row r)
    → (b : Bool) → (x.section == s) ≡ b → LieWell x (boxed s r l f d o)
lie_well s r l d f o x u g true e =
    by_place s r l d f o x (u (eqb-true x.section s e)) (g (eqb-true x.section s e))
lie_well s r l d f o x u g false e = elsewhere (eqb-false x.section s e)

-- ---- the end of a section

-- a box that was drawn, and those of all that is open
pub lie_below : (s r l d : ℕ) (f : Foot) (os : List Opening) (x : Placed) → UnderAll s d os x
    → (x.section ≡ s → Reaches f x.box.row r) → Each (LieWell x) (boxes_below (row_of s r) l f d os)
lie_below s r l d f [] x u g = tt
lie_below s r l d f (o ∷ os) x u g =
    (lie_well s r l d f o x u.0 g (x.section == s) refl, lie_below s r l (d + 1) f os x u.1 g)

-- what is open begins inside of what is open above it
pub begins_below : (s : ℕ) (o p : Opening) → Later s o p → (b : Bool) → (o.start.section == s) ≡ b
    → ((if o.start.section == s then o.start.row else 0) < (if p.start.section == s then p.start.row else 0))
    ⊎ ((not (o.start.section == s) ≡ true)
    × ((if o.start.section == s then o.start.row else 0) ≤ (if p.start.section == s then p.start.row else 0)))
begins_below s o p h true e =
    let w : (p.start.section ≡ s) × (o.start.row < p.start.row) = h (eqb-true o.start.section s e) in
    inl (subst (λ (c : Bool). (if c then o.start.row else 0) < (if p.start.section == s then p.start.row else 0)) (sym e)
    (high_top s p.start.section p.start.row o.start.row w.0 w.1))
begins_below s o p h false e =
    inr (
      ap not e,
      subst (λ (c : Bool). (if c then o.start.row else 0) ≤ (if p.start.section == s then p.start.row else 0)) (sym e)
          (omega arith),
    )

inside_below : (s r l d k : ℕ) (f : Foot) (o p : Opening) → is_down f ≡ true → d < k → Later s o p
    → LieWell (boxed s r l f d o) (boxed s r l f k p)
inside_below s r l d k f o p down h later = around (record {
  deeper = h;
  begins = begins_below s o p later (o.start.section == s) refl;
  ends = inr (down, omega arith);
})

outer_below : (s r l d k : ℕ) (f : Foot) (o : Opening) (os : List Opening) → is_down f ≡ true → d < k → Each (Later s o) os
    → Each (LieWell (boxed s r l f d o)) (boxes_below (row_of s r) l f k os)
outer_below s r l d k f o [] down h later = tt
outer_below s r l d k f o (p ∷ os) down h later =
    (inside_below s r l d k f o p down h later.0, outer_below s r l d (k + 1) f o os down (omega (arith, h)) later.1)

pub nest_below : (s r l d : ℕ) (f : Foot) (os : List Opening) → is_down f ≡ true → Sorted s os
    → AllNest (boxes_below (row_of s r) l f d os)
nest_below s r l d f [] down h = tt
nest_below s r l d f (o ∷ os) down h =
    (outer_below s r l d (d + 1) f o os down (omega arith) h.0, nest_below s r l (d + 1) f os down h.1)

pub nest_append : (xs ys : List Placed) → AllNest xs → AllNest ys → Each (λ x. Each (LieWell x) ys) xs → AllNest (xs ++ ys)
nest_append [] ys hx hy both = hy
nest_append (x ∷ xs) ys hx hy both =
    (each_append (LieWell x) xs ys hx.0 both.0, nest_append xs ys hx.1 hy both.1)

pub below_row : (s r : ℕ) (f : Foot) (x : Placed) → is_down f ≡ true → Past s (r + 1) x → x.section ≡ s → Reaches f x.box.row r
below_row s r f x down h e = let k : x.box.row < r + 1 = h.1 e in inr (down, omega (arith, k))

-- at the end of a section all nest with the boxes of what is open
pub below_nest : (s r l : ℕ) (f : Foot) (os : List Opening) (xs : List Placed) → is_down f ≡ true → Drawing s (r + 1) os xs
    → AllNest (xs ++ boxes_below (row_of s r) l f 1 os)
below_nest s r l f os xs down w =
    nest_append xs (boxes_below (row_of s r) l f 1 os) w.nest (nest_below s r l 1 f os down w.sorted)
    (each_both (UnderAll s 1 os) (Past s (r + 1)) (λ (x : Placed). Each (LieWell x) (boxes_below (row_of s r) l f 1 os))
    (λ x u p. lie_below s r l 1 f os x u (below_row s r f x down p)) xs w.under w.past)

-- ---- from section to section

pub begun_before : (s z r q : ℕ) (o : Opening) → s < z → Begun s r o → Begun z q o
begun_before s z r q o h b =
    let k : o.start.section ≤ s = b.0 in (omega (arith, h, k), λ e. absurd (omega (arith, h, k, e)))

past_before : (s z r q : ℕ) (x : Placed) → s < z → Past s r x → Past z q x
past_before s z r q x h b = let k : x.section ≤ s = b.0 in (omega (arith, h, k), λ e. absurd (omega (arith, h, k, e)))

later_before : (s z r : ℕ) (o p : Opening) → s < z → Begun s r o → Later z o p
later_before s z r o p h b = λ e. let k : o.start.section ≤ s = b.0 in absurd (omega (arith, h, k, e))

pub all_later : (s z r : ℕ) (o : Opening) (os : List Opening) → s < z → Begun s r o → Each (Later z o) os
all_later s z r o [] h b = tt
all_later s z r o (p ∷ os) h b = (later_before s z r o p h b, all_later s z r o os h b)

sorted_before : (s z r : ℕ) (os : List Opening) → s < z → Each (Begun s r) os → Sorted z os
sorted_before s z r [] h b = tt
sorted_before s z r (o ∷ os) h b = (all_later s z r o os h b.0, sorted_before s z r os h b.1)

pub under_before : (s z d : ℕ) (os : List Opening) (x : Placed) → s < z → x.section ≤ s → UnderAll z d os x
under_before s z d [] x h k = tt
under_before s z d (o ∷ os) x h k = ((λ e. absurd (omega (arith, h, k, e))), under_before s z (d + 1) os x h k)

pub past_below : (s r z q l d : ℕ) (f : Foot) (os : List Opening) → s < z → Each (Past z q) (boxes_below (row_of s r) l f d os)
past_below s r z q l d f [] h = tt
past_below s r z q l d f (o ∷ os) h =
    ((omega (arith, h), λ e. absurd (omega (arith, h, e))), past_below s r z q l (d + 1) f os h)

pub under_below : (s r z l d : ℕ) (f : Foot) (os all : List Opening) → s < z
    → Each (UnderAll z 1 all) (boxes_below (row_of s r) l f d os)
under_below s r z l d f [] all h = tt
under_below s r z l d f (o ∷ os) all h =
    (under_before s z 1 all (boxed s r l f d o) h (omega arith), under_below s r z l (d + 1) f os all h)

-- a later section begins, with nothing drawn at the end of this one
pub skip : (s z r q : ℕ) (os : List Opening) (xs : List Placed) → s < z → Drawing s r os xs → Drawing z q os xs
skip s z r q os xs h w = record {
  begun = each_weaker (Begun s r) (Begun z q) (λ o b. begun_before s z r q o h b) os w.begun;
  sorted = sorted_before s z r os h w.begun;
  past = each_weaker (Past s r) (Past z q) (λ x p. past_before s z r q x h p) xs w.past;
  under = each_weaker (Past s r) (UnderAll z 1 os) (λ x p. under_before s z 1 os x h p.0) xs w.past;
  nest = w.nest;
}

-- a later section begins, with the boxes of what is open at the end of this one
pub next_section : (s z r q l : ℕ) (f : Foot) (os : List Opening) (xs : List Placed) → is_down f ≡ true → s < z
    → Drawing s (r + 1) os xs → Drawing z q os (xs ++ boxes_below (row_of s r) l f 1 os)
next_section s z r q l f os xs down h w =
    let old : Drawing z q os xs = skip s z (r + 1) q os xs h w in
    record {
      begun = old.begun;
      sorted = old.sorted;
      past = each_append (Past z q) xs (boxes_below (row_of s r) l f 1 os) old.past (past_below s r z q l 1 f os h);
      under =
          each_append (UnderAll z 1 os) xs (boxes_below (row_of s r) l f 1 os) old.under (under_below s r z l 1 f os os h);
      nest = below_nest s r l f os xs down w;
    }

-- where no row of a section was drawn yet, all that is open began above it
pub above_all : (z : ℕ) (o : Opening) (os : List Opening) → Begun z 0 o → Each (Later z o) os
above_all z o [] b = tt
above_all z o (p ∷ os) b = ((λ e. let k : o.start.row < 0 = b.1 e in absurd (omega (arith, k))), above_all z o os b)

sorted_all : (z : ℕ) (os : List Opening) → Each (Begun z 0) os → Sorted z os
sorted_all z [] b = tt
sorted_all z (o ∷ os) b = (above_all z o os b.0, sorted_all z os b.1)

pub under_any : (z d : ℕ) (os : List Opening) (x : Placed) → Past z 0 x → UnderAll z d os x
under_any z d [] x b = tt
under_any z d (o ∷ os) x b =
    ((λ e. let k : x.box.row < 0 = b.1 e in absurd (omega (arith, k))), under_any z (d + 1) os x b)

pub fresh : (z : ℕ) (was now : List Opening) (xs : List Placed) → Each (Begun z 0) now → Drawing z 0 was xs → Drawing z 0 now xs
fresh z was now xs b w = record {
  begun = b;
  sorted = sorted_all z now b;
  past = w.past;
  under = each_weaker (Past z 0) (UnderAll z 1 now) (λ x p. under_any z 1 now x p) xs w.past;
  nest = w.nest;
}

-- ---- from row to row

pub begun_longer : (s r q : ℕ) (o : Opening) → r ≤ q → Begun s r o → Begun s q o
begun_longer s r q o h b = (b.0, λ e. let k : o.start.row < r = b.1 e in omega (arith, h, k))

past_longer : (s r q : ℕ) (x : Placed) → r ≤ q → Past s r x → Past s q x
past_longer s r q x h b = (b.0, λ e. let k : x.box.row < r = b.1 e in omega (arith, h, k))

-- a row in which nothing begins or ends in the lane
pub goes_on : (s r q : ℕ) (os : List Opening) (xs : List Placed) → r ≤ q → Drawing s r os xs → Drawing s q os xs
goes_on s r q os xs h w = record {
  begun = each_weaker (Begun s r) (Begun s q) (λ o b. begun_longer s r q o h b) os w.begun;
  sorted = w.sorted;
  past = each_weaker (Past s r) (Past s q) (λ x p. past_longer s r q x h p) xs w.past;
  under = w.under;
  nest = w.nest;
}

-- ---- something opens

sorted_append : (s : ℕ) (os : List Opening) (p : Opening) → Sorted s os → Each (λ o. Later s o p) os → Sorted s (os ++ p ∷ [])
sorted_append s [] p h later = (tt, tt)
sorted_append s (o ∷ os) p h later =
    (each_append (Later s o) os (p ∷ []) h.0 (later.0, tt), sorted_append s os p h.1 later.1)

under_append : (s d : ℕ) (os : List Opening) (p : Opening) (x : Placed) → UnderAll s d os x → ((k : ℕ) → Under s k p x)
    → UnderAll s d (os ++ p ∷ []) x
under_append s d [] p x u h = (h d, tt)
under_append s d (o ∷ os) p x u h = (u.0, under_append s (d + 1) os p x u.1 h)

-- something opens in this row
pub opens : (s r : ℕ) (w : Opened) (os : List Opening) (xs : List Placed) → Drawing s r os xs
    → Drawing s (r + 1) (os ++ record { what = w; start = record { section = s; row = r } } ∷ []) xs
opens s r w os xs g =
    record {
      begun =
          each_append (Begun s (r + 1)) os (record { what = w; start = record { section = s; row = r } } ∷ [])
          (each_weaker (Begun s r) (Begun s (r + 1)) (λ o b. begun_longer s r (r + 1) o (omega arith) b) os g.begun)
          ((omega arith, λ e. omega arith), tt);
      sorted =
          sorted_append s os (record { what = w; start = record { section = s; row = r } }) g.sorted
          (each_weaker (Begun s r) (λ o. Later s o (record { what = w; start = record { section = s; row = r } }))
          (λ o b e. (refl, b.1 e)) os g.begun);
      past = each_weaker (Past s r) (Past s (r + 1)) (λ x p. past_longer s r (r + 1) x (omega arith) p) xs g.past;
      under =
          each_both (UnderAll s 1 os) (Past s r)
          (UnderAll s 1 (os ++ record { what = w; start = record { section = s; row = r } } ∷ []))
          (λ x u p. under_append s 1 os (record { what = w; start = record { section = s; row = r } }) x u
          (λ k e. inl (refl, p.1 e))) xs g.under g.past;
      nest = g.nest;
    }

-- ---- the innermost is closed

sorted_front : (s : ℕ) (front : List Opening) (o : Opening) → Sorted s (front ++ o ∷ []) → Sorted s front
sorted_front s [] o h = tt
sorted_front s (p ∷ front) o h = (each_front (Later s p) front (o ∷ []) h.0, sorted_front s front o h.1)

under_front : (s d : ℕ) (front : List Opening) (o : Opening) (x : Placed) → UnderAll s d (front ++ o ∷ []) x
    → UnderAll s d front x
under_front s d [] o x u = tt
under_front s d (p ∷ front) o x u = (u.0, under_front s (d + 1) front o x u.1)

under_last : (s d k : ℕ) (front : List Opening) (o : Opening) (x : Placed) → k ≡ d + length front
    → UnderAll s d (front ++ o ∷ []) x → Under s k o x
under_last s d k [] o x e u = let same : d ≡ k = omega (arith, e) in subst (λ (n : ℕ). Under s n o x) same u.0
under_last s d k (p ∷ front) o x e u = under_last s (d + 1) k front o x (omega (arith, e)) u.1

held_front : (s r l d k : ℕ) (front : List Opening) (o : Opening) → k ≡ d + length front → Sorted s (front ++ o ∷ [])
    → UnderAll s d front (boxed s r l foot.Inner k o)
held_front s r l d k [] o e h = tt
held_front s r l d k (p ∷ front) o e h = (
  (λ here. inr (
    omega (arith, e),
    λ b.
        let w : (o.start.section ≡ s) × (p.start.row < o.start.row) = (each_behind (Later s p) front (o ∷ []) h.0).0 b in
        high_top s o.start.section o.start.row p.start.row w.0 w.1,
  )),
  held_front s r l (d + 1) k front o (omega (arith, e)) h.1,
)

closes_last : (s r l k : ℕ) (front : List Opening) (o : Opening) (xs : List Placed) → k ≡ 1 + length front
    → Drawing s r (front ++ o ∷ []) xs → Drawing s (r + 1) front (xs ++ boxed s r l foot.Inner k o ∷ [])
closes_last s r l k front o xs e w = record {
  begun =
      each_weaker (Begun s r) (Begun s (r + 1)) (λ p b. begun_longer s r (r + 1) p (omega arith) b) front
      (each_front (Begun s r) front (o ∷ []) w.begun);
  sorted = sorted_front s front o w.sorted;
  past =
      each_append (Past s (r + 1)) xs (boxed s r l foot.Inner k o ∷ [])
      (each_weaker (Past s r) (Past s (r + 1)) (λ x p. past_longer s r (r + 1) x (omega arith) p) xs w.past)
      ((omega arith, λ here. omega arith), tt);
  under =
      each_append (UnderAll s 1 front) xs (boxed s r l foot.Inner k o ∷ [])
      (each_weaker (UnderAll s 1 (front ++ o ∷ [])) (UnderAll s 1 front) (λ x u. under_front s 1 front o x u) xs w.under)
      (held_front s r l 1 k front o e w.sorted, tt);
  nest =
      nest_append xs (boxed s r l foot.Inner k o ∷ []) w.nest (tt, tt)
      (each_both (UnderAll s 1 (front ++ o ∷ [])) (Past s r)
      (λ (x : Placed). Each (LieWell x) (boxed s r l foot.Inner k o ∷ []))
      (λ x u p. (lie_well s r l k foot.Inner o x (under_last s 1 k front o x e u) (λ here. inl (p.1 here)) (x.section == s) refl, tt))
      xs w.under w.past);
}

closes_none : (s r l : ℕ) (xs : List Placed) → Drawing s r [] xs
    → Drawing s (r + 1) (outer []) (xs ++ box_of_innermost (row_of s r) l [])
closes_none s r l xs w =
    subst (λ (ys : List Placed). Drawing s (r + 1) [] ys) (sym (append-nil xs)) (goes_on s r (r + 1) [] xs (omega arith) w)

closes_some : (s r l : ℕ) (front : List Opening) (o : Opening) (xs : List Placed) → Drawing s r (front ++ o ∷ []) xs
    → Drawing s (r + 1) (outer (front ++ o ∷ [])) (xs ++ box_of_innermost (row_of s r) l (front ++ o ∷ []))
closes_some s r l front o xs w =
    let long : length (front ++ o ∷ []) ≡ length front + 1 = last_length front o in
    let one : length (front ++ o ∷ []) - 1 ≡ length front = omega (arith, long) in
    let rest : take (length (front ++ o ∷ []) - 1) (front ++ o ∷ []) ≡ front =
    ap (λ (n : ℕ). take n (front ++ o ∷ [])) one ∙ front_of front o in
    let last : slice_get (front ++ o ∷ []) (length (front ++ o ∷ []) - 1) ≡ Some o =
    ap (λ (n : ℕ). slice_get (front ++ o ∷ []) n) one ∙ last_of front o in
    subst (λ (v : Option Opening). Drawing s (r + 1) (outer (front ++ o ∷ []))
    (xs ++ box_of (row_of s r) l (length (front ++ o ∷ [])) v)) (sym last)
    (subst (λ (v : List Opening). Drawing s (r + 1) v (xs ++ boxed s r l foot.Inner (length (front ++ o ∷ [])) o ∷ [])) (sym rest)
    (closes_last s r l (length (front ++ o ∷ [])) front o xs (omega (arith, long)) w))

-- the innermost is closed in this row
pub closes : (s r l : ℕ) (os : List Opening) (xs : List Placed) → Drawing s r os xs
    → Drawing s (r + 1) (outer os) (xs ++ box_of_innermost (record { section = s; row = r }) l os)
closes s r l os xs w =
    elim (ended os) as (λ v. Drawing s (r + 1) (outer os) (xs ++ box_of_innermost (row_of s r) l os)) [
      | inl e ↦
          subst (λ (v : List Opening). Drawing s r v xs → Drawing s (r + 1) (outer v) (xs ++ box_of_innermost (row_of s r) l v))
          (sym e) (closes_none s r l xs) w
      | inr f ↦
          subst (λ (v : List Opening). Drawing s r v xs → Drawing s (r + 1) (outer v) (xs ++ box_of_innermost (row_of s r) l v))
          (sym f.2) (closes_some s r l f.0 f.1 xs) w
    ]
