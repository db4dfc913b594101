-- The boxes of a lane nest with its grounds, where a ground begins and ends while nothing is open in the lane.
use Rattle.std.proofs.Common.{◌≡◌, ℕ, List, [], ◌∷◌, ◌++◌, ◌+◌, ◌-◌, ◌<◌, ◌≤◌, length, ◌⊎◌, inl, inr, Bool, true, false, ◌==◌}
use Rattle.std.proofs.Common.{refl, sym, subst, arith, append-nil, Option, Some, None}
use Rattle.std.proofs.lemmas.Bool.{eqb-false, eqb-true}
use Rattle.com_draw_state.specs.declared.lanes.Home.{Home}
use Rattle.com_draw_state.specs.declared.stacks.Opened.{Opened}
use Rattle.com_draw_state.specs.declared.stacks.Opened.TheVariants as what
use Rattle.com_draw_state.specs.declared.stacks.Opening.{Opening}
use Rattle.com_draw_state.specs.Stacks.{innermost, outer}
use Rattle.com_draw_words.specs.declared.boxes.Foot.{Foot}
use Rattle.com_draw_words.specs.declared.boxes.Foot.TheVariants as foot
use Rattle.com_draw_shapes.specs.Boxes.{home_box}
use Rattle.com_laws_draw.specs.Boxes.{AllNest, Each, LieWell, Placed, above, around, box_of, box_of_innermost, boxes_below, elsewhere, inside, is_down, placed}
use Rattle.com_laws_draw.proofs.Lists.{OnSome, each_append, each_at, each_both, each_take, each_weaker}
use Rattle.com_laws_draw.proofs.Nesting.{Above, Begun, Drawing, Held, Later, Past, Reaches, Under, UnderAll, above_all, all_later, begins_below, begun_before, begun_longer, below_row, boxed, closes, fresh, goes_on, high_top, lie_below, low_top, nest_append, nest_below, opens, past_below, row_of, skip, under_any, under_before, under_below}
use Rattle.com_laws_boxes.specs.Pieces.{grounds}

-- ---- what holds of the ground that a lane stands on

-- a ground is as something that is open below all else
abbrev pub as_open : Home → Opening
as_open g = record { what = what.Pumps; start = g.start }

pub record Base (s r : ℕ) (g : Home) (os : List Opening) (xs : List Placed) : Type 0 where
  pub begun : Begun s r (as_open g)
  pub later : Each (Later s (as_open g)) os
  pub under : Each (Under s 0 (as_open g)) xs

abbrev pub Based : (s r : ℕ) → Option Home → List Opening → List Placed → Type 0
Based s r None os xs = Unit {0}
Based s r (Some g) os xs = Base s r g os xs

pub record Lying (s r : ℕ) (v : Option Home) (os : List Opening) (xs : List Placed) : Type 0 where
  pub drawing : Drawing s r os xs
  pub base : Based s r v os xs

-- ---- two boxes

abbrev ground : (s r l : ℕ) → Foot → Home → Placed
ground s r l f g = placed (row_of s r) (home_box (row_of s r) l f g)

by_place : (s r l : ℕ) (f : Foot) (g : Home) (x : Placed) → Above s (as_open g) x ⊎ Held s 0 (as_open g) x
    → Reaches f x.box.row r → LieWell x (ground s r l f g)
by_place s r l f g x (inl a) k = above (high_top s g.start.section g.start.row x.box.row a.0 a.1)
by_place s r l f g x (inr h) k = inside (record {
  deeper = h.0;
  begins = low_top s g.start.section g.start.row x.box.top h.1 (g.start.section == s) refl;
  ends = k;
})

lie_well : (s r l : ℕ) (f : Foot) (g : Home) (x : Placed) → Under s 0 (as_open g) x → (x.section ≡ s → Reaches f x.box.row r)
    → (b : Bool) → (x.section == s) ≡ b → LieWell x (ground s r l f g)
lie_well s r l f g x u k true e =
    by_place s r l f g x (u (eqb-true x.section s e)) (k (eqb-true x.section s e))
lie_well s r l f g x u k false e = elsewhere (eqb-false x.section s e)

-- boxes that were drawn, and the ground
lie_on : (s r l : ℕ) (f : Foot) (g : Home) (xs : List Placed)
    → ((x : Placed) → Past s (r + 1) x → x.section ≡ s → Reaches f x.box.row r) → Each (Under s 0 (as_open g)) xs
    → Each (Past s (r + 1)) xs → Each (λ x. LieWell x (ground s r l f g)) xs
lie_on s r l f g xs k u p =
    each_both (Under s 0 (as_open g)) (Past s (r + 1)) (λ x. LieWell x (ground s r l f g))
    (λ x v q. lie_well s r l f g x v (k x q) (x.section == s) refl) xs u p

-- the ground, and what is open on it
on_ground : (s r l k : ℕ) (f : Foot) (g : Home) (os : List Opening) → 0 < k → Each (Later s (as_open g)) os
    → Each (LieWell (ground s r l foot.Down g)) (boxes_below (row_of s r) l f k os)
on_ground s r l k f g [] h later = tt
on_ground s r l k f g (o ∷ os) h later = (
  around (record {
    deeper = h;
    begins = begins_below s (as_open g) o later.0 (g.start.section == s) refl;
    ends = inr (refl, omega arith);
  }),
  on_ground s r l (k + 1) f g os (omega arith) later.1,
)

-- ---- the end of a section

drawn_below : (s r l : ℕ) (f : Foot) (os : List Opening) (xs : List Placed) → is_down f ≡ true → Drawing s (r + 1) os xs
    → Each (λ x. Each (LieWell x) (boxes_below (row_of s r) l f 1 os)) xs
drawn_below s r l f os xs down w =
    each_both (UnderAll s 1 os) (Past s (r + 1)) (λ (x : Placed). Each (LieWell x) (boxes_below (row_of s r) l f 1 os))
    (λ x u p. lie_below s r l 1 f os x u (below_row s r f x down p)) xs w.under w.past

-- at the end of a section all nest with the boxes of the ground and of what is open
pub section_nests : (s r l : ℕ) (f : Foot) (v : Option Home) (os : List Opening) (xs : List Placed) → is_down f ≡ true
    → Lying s (r + 1) v os xs → AllNest (xs ++ (grounds (row_of s r) l foot.Down v ++ boxes_below (row_of s r) l f 1 os))
section_nests s r l f None os xs down w =
    nest_append xs (boxes_below (row_of s r) l f 1 os) w.drawing.nest (nest_below s r l 1 f os down w.drawing.sorted)
    (drawn_below s r l f os xs down w.drawing)
section_nests s r l f (Some g) os xs down w =
    nest_append xs (ground s r l foot.Down g ∷ boxes_below (row_of s r) l f 1 os) w.drawing.nest
    (on_ground s r l 1 f g os (omega arith) w.base.later, nest_below s r l 1 f os down w.drawing.sorted)
    (each_both (λ y. LieWell y (ground s r l foot.Down g)) (λ y. Each (LieWell y) (boxes_below (row_of s r) l f 1 os))
    (λ y. Each (LieWell y) (ground s r l foot.Down g ∷ boxes_below (row_of s r) l f 1 os)) (λ y a b. (a, b)) xs
    (lie_on s r l foot.Down g xs (λ x p. below_row s r foot.Down x refl p) w.base.under w.drawing.past)
    (drawn_below s r l f os xs down w.drawing))

-- ---- from section to section

before : (s z : ℕ) (g : Home) (x : Placed) → s < z → x.section ≤ s → Under z 0 (as_open g) x
before s z g x h k = λ e. absurd (omega (arith, h, k, e))

past_grounds : (s r z q l : ℕ) (f : Foot) (v : Option Home) → s < z → Each (Past z q) (grounds (row_of s r) l f v)
past_grounds s r z q l f None h = tt
past_grounds s r z q l f (Some g) h = ((omega (arith, h), λ e. absurd (omega (arith, h, e))), tt)

under_grounds : (s r z l : ℕ) (f : Foot) (v : Option Home) (all : List Opening) → s < z
    → Each (UnderAll z 1 all) (grounds (row_of s r) l f v)
under_grounds s r z l f None all h = tt
under_grounds s r z l f (Some g) all h = (under_before s z 1 all (ground s r l f g) h (omega arith), tt)

grounds_before : (s r z l : ℕ) (f : Foot) (g : Home) (v : Option Home) → s < z → Each (Under z 0 (as_open g)) (grounds (row_of s r) l f v)
grounds_before s r z l f g None h = tt
grounds_before s r z l f g (Some k) h = (before s z g (ground s r l f k) h (omega arith), tt)

below_before : (s r z l d : ℕ) (f : Foot) (g : Home) (os : List Opening) → s < z
    → Each (Under z 0 (as_open g)) (boxes_below (row_of s r) l f d os)
below_before s r z l d f g [] h = tt
below_before s r z l d f g (o ∷ os) h =
    (before s z g (boxed s r l f d o) h (omega arith), below_before s r z l (d + 1) f g os h)

next_base : (s z r q l : ℕ) (f : Foot) (v : Option Home) (os : List Opening) (xs : List Placed) → s < z
    → Drawing s (r + 1) os xs → Based s (r + 1) v os xs
    → Based z q v os (xs ++ (grounds (row_of s r) l foot.Down v ++ boxes_below (row_of s r) l f 1 os))
next_base s z r q l f None os xs h d w = tt
next_base s z r q l f (Some g) os xs h d w = record {
  begun = begun_before s z (r + 1) q (as_open g) h w.begun;
  later = all_later s z (r + 1) (as_open g) os h w.begun;
  under =
      each_append (Under z 0 (as_open g)) xs (ground s r l foot.Down g ∷ boxes_below (row_of s r) l f 1 os)
      (each_weaker (Past s (r + 1)) (Under z 0 (as_open g)) (λ x p. before s z g x h p.0) xs d.past)
      (before s z g (ground s r l foot.Down g) h (omega arith), below_before s r z l 1 f g os h);
}

-- a later section begins, with the boxes of the ground and of what is open at the end of this one
pub next_section : (s z r q l : ℕ) (f : Foot) (v : Option Home) (os : List Opening) (xs : List Placed) → is_down f ≡ true → s < z
    → Lying s (r + 1) v os xs → Lying z q v os (xs ++ (grounds (row_of s r) l foot.Down v ++ boxes_below (row_of s r) l f 1 os))
next_section s z r q l f v os xs down h w =
    let old : Drawing z q os xs = skip s z (r + 1) q os xs h w.drawing in
    record {
      drawing = record {
        begun = old.begun;
        sorted = old.sorted;
        past =
            each_append (Past z q) xs (grounds (row_of s r) l foot.Down v ++ boxes_below (row_of s r) l f 1 os) old.past
            (each_append (Past z q) (grounds (row_of s r) l foot.Down v) (boxes_below (row_of s r) l f 1 os)
            (past_grounds s r z q l foot.Down v h) (past_below s r z q l 1 f os h));
        under =
            each_append (UnderAll z 1 os) xs (grounds (row_of s r) l foot.Down v ++ boxes_below (row_of s r) l f 1 os) old.under
            (each_append (UnderAll z 1 os) (grounds (row_of s r) l foot.Down v) (boxes_below (row_of s r) l f 1 os)
            (under_grounds s r z l foot.Down v os h) (under_below s r z l 1 f os os h));
        nest = section_nests s r l f v os xs down w;
      };
      base = next_base s z r q l f v os xs h w.drawing w.base;
    }

-- where no row of a section was drawn yet, a ground began above it
abbrev pub HomeBegun : (z : ℕ) → Option Home → Type 0
HomeBegun z None = Unit {0}
HomeBegun z (Some g) = Begun z 0 (as_open g)

fresh_base : (z : ℕ) (was now : List Opening) (v : Option Home) (xs : List Placed) → HomeBegun z v → Drawing z 0 was xs → Based z 0 v now xs
fresh_base z was now None xs b w = tt
fresh_base z was now (Some g) xs b w = record {
  begun = b;
  later = above_all z (as_open g) now b;
  under = each_weaker (Past z 0) (Under z 0 (as_open g)) (λ x p. (under_any z 0 (as_open g ∷ []) x p).0) xs w.past;
}

pub lies_fresh : (z : ℕ) (was now : List Opening) (v : Option Home) (xs : List Placed) → HomeBegun z v → Each (Begun z 0) now
    → Drawing z 0 was xs → Lying z 0 v now xs
lies_fresh z was now v xs b k w = record { drawing = fresh z was now xs k w; base = fresh_base z was now v xs b w }

-- ---- from row to row

base_longer : (s r q : ℕ) (v : Option Home) (os : List Opening) (xs : List Placed) → r ≤ q → Based s r v os xs → Based s q v os xs
base_longer s r q None os xs h w = tt
base_longer s r q (Some g) os xs h w =
    record { begun = begun_longer s r q (as_open g) h w.begun; later = w.later; under = w.under }

-- a row in which nothing begins or ends in the lane
pub lies_on : (s r q : ℕ) (v : Option Home) (os : List Opening) (xs : List Placed) → r ≤ q → Lying s r v os xs → Lying s q v os xs
lies_on s r q v os xs h w = record { drawing = goes_on s r q os xs h w.drawing; base = base_longer s r q v os xs h w.base }

opens_base : (s r : ℕ) (w : Opened) (v : Option Home) (os : List Opening) (xs : List Placed) → Based s r v os xs
    → Based s (r + 1) v (os ++ record { what = w; start = record { section = s; row = r } } ∷ []) xs
opens_base s r w None os xs b = tt
opens_base s r w (Some g) os xs b = record {
  begun = begun_longer s r (r + 1) (as_open g) (omega arith) b.begun;
  later =
      each_append (Later s (as_open g)) os (record { what = w; start = record { section = s; row = r } } ∷ []) b.later
      ((λ e. (refl, b.begun.1 e)), tt);
  under = b.under;
}

-- something opens in this row
pub lies_open : (s r : ℕ) (w : Opened) (v : Option Home) (os : List Opening) (xs : List Placed) → Lying s r v os xs
    → Lying s (r + 1) v (os ++ record { what = w; start = record { section = s; row = r } } ∷ []) xs
lies_open s r w v os xs k =
    record { drawing = opens s r w os xs k.drawing; base = opens_base s r w v os xs k.base }

-- what is innermost lies on the ground
last_under : (s r l d : ℕ) (g : Home) (v : Option Opening) → 0 < d → OnSome (Later s (as_open g)) v
    → Each (Under s 0 (as_open g)) (box_of (row_of s r) l d v)
last_under s r l d g None h later = tt
last_under s r l d g (Some o) h later = (
  (λ here. inr (
    h,
    λ b.
        let w : (o.start.section ≡ s) × (g.start.row < o.start.row) = later b in
        high_top s o.start.section o.start.row g.start.row w.0 w.1,
  )),
  tt,
)

innermost_under : (s r l : ℕ) (g : Home) (os : List Opening) → Each (Later s (as_open g)) os
    → Each (Under s 0 (as_open g)) (box_of_innermost (row_of s r) l os)
innermost_under s r l g [] later = tt
innermost_under s r l g (o ∷ os) later =
    last_under s r l (length (o ∷ os)) g (innermost (o ∷ os)) (omega arith)
    (each_at (Later s (as_open g)) (o ∷ os) (length (o ∷ os) - 1) later)

closes_base : (s r l : ℕ) (v : Option Home) (os : List Opening) (xs : List Placed) → Based s r v os xs
    → Based s (r + 1) v (outer os) (xs ++ box_of_innermost (row_of s r) l os)
closes_base s r l None os xs b = tt
closes_base s r l (Some g) os xs b = record {
  begun = begun_longer s r (r + 1) (as_open g) (omega arith) b.begun;
  later = each_take (Later s (as_open g)) (length os - 1) os b.later;
  under =
      each_append (Under s 0 (as_open g)) xs (box_of_innermost (row_of s r) l os) b.under (innermost_under s r l g os b.later);
}

-- the innermost is closed in this row
pub lies_closed : (s r l : ℕ) (v : Option Home) (os : List Opening) (xs : List Placed) → Lying s r v os xs
    → Lying s (r + 1) v (outer os) (xs ++ box_of_innermost (row_of s r) l os)
lies_closed s r l v os xs k =
    record { drawing = closes s r l os xs k.drawing; base = closes_base s r l v os xs k.base }

-- a ground begins in this row, where nothing is open
pub lies_entered : (s r a : ℕ) (v : Option Home) (os : List Opening) (xs : List Placed) → os ≡ [] → Lying s r v os xs
    → Lying s (r + 1) (Some (record { apartment = a; start = record { section = s; row = r } })) os xs
lies_entered s r a v os xs none k = record {
  drawing = goes_on s r (r + 1) os xs (omega arith) k.drawing;
  base = record {
    begun = (omega arith, λ e. omega arith);
    later =
        subst (λ (ps : List Opening). Each (Later s (as_open (record { apartment = a; start = record { section = s; row = r } }))) ps)
        (sym none) tt;
    under =
        each_weaker (Past s r) (Under s 0 (as_open (record { apartment = a; start = record { section = s; row = r } })))
        (λ x p e. inl (refl, p.1 e)) xs k.drawing.past;
  };
}

leaves_ground : (s r l : ℕ) (g : Home) (xs : List Placed) → Drawing s r [] xs → Base s r g [] xs
    → Drawing s (r + 1) [] (xs ++ ground s r l foot.Inner g ∷ [])
leaves_ground s r l g xs d b =
    let old : Drawing s (r + 1) [] xs = goes_on s r (r + 1) [] xs (omega arith) d in
    record {
      begun = tt;
      sorted = tt;
      past = each_append (Past s (r + 1)) xs (ground s r l foot.Inner g ∷ []) old.past ((omega arith, λ here. omega arith), tt);
      under = each_append (UnderAll s 1 []) xs (ground s r l foot.Inner g ∷ []) old.under (tt, tt);
      nest =
          nest_append xs (ground s r l foot.Inner g ∷ []) d.nest (tt, tt)
          (each_both (Under s 0 (as_open g)) (Past s r) (λ (x : Placed). Each (LieWell x) (ground s r l foot.Inner g ∷ []))
          (λ x u p. (lie_well s r l foot.Inner g x u (λ here. inl (p.1 here)) (x.section == s) refl, tt)) xs b.under d.past);
    }

leaves : (s r l : ℕ) (v : Option Home) (xs : List Placed) → Lying s r v [] xs
    → Lying s (r + 1) None [] (xs ++ grounds (row_of s r) l foot.Inner v)
leaves s r l None xs k =
    record {
      drawing =
          subst (λ (ys : List Placed). Drawing s (r + 1) [] ys) (sym (append-nil xs))
          (goes_on s r (r + 1) [] xs (omega arith) k.drawing);
      base = tt;
    }
leaves s r l (Some g) xs k = record { drawing = leaves_ground s r l g xs k.drawing k.base; base = tt }

-- a ground ends in this row, where nothing is open
pub lies_left : (s r l : ℕ) (v : Option Home) (os : List Opening) (xs : List Placed) → os ≡ [] → Lying s r v os xs
    → Lying s (r + 1) None os (xs ++ grounds (row_of s r) l foot.Inner v)
lies_left s r l v os xs none k =
    subst (λ (ps : List Opening). Lying s (r + 1) None ps (xs ++ grounds (row_of s r) l foot.Inner v)) (sym none)
    (leaves s r l v xs (subst (λ (ps : List Opening). Lying s r v ps xs) none k))
