-- Boxes in the sections of a page, and how two of them lie to each other.
use Rattle.std.specs.Prelude.{◌≡◌, ◌≢◌, ℕ, ◌+◌, ◌<◌, ◌≤◌, ◌⊎◌, Bool, true, false, List, [], ◌∷◌, ◌++◌}
use Rattle.std.specs.Prelude.{Option, Some, None, length}
use Rattle.com_draw_state.specs.declared.stacks.Opening.{Opening}
use Rattle.com_draw_state.specs.declared.stacks.Start.{Start}
use Rattle.com_draw_state.specs.Stacks.{innermost}
use Rattle.com_draw_words.specs.declared.boxes.BoxKind.TheVariants as kind
use Rattle.com_draw_words.specs.declared.boxes.BoxText.TheVariants as inner
use Rattle.com_draw_words.specs.declared.boxes.DrawnBox.{DrawnBox}
use Rattle.com_draw_words.specs.declared.boxes.Foot.{Foot}
use Rattle.com_draw_words.specs.declared.boxes.Foot.TheVariants as foot
use Rattle.com_draw_words.specs.Boxes.{box_text}
use Rattle.com_draw_shapes.specs.Boxes.{opening_box}

-- A box in a section of the page.
pub record Placed : Type 0 where
  pub section : ℕ
  pub box : DrawnBox

-- ---- two boxes

-- Whether a box goes on below its section.
abbrev pub is_down : Foot → Bool
is_down foot.Inner = false
is_down foot.Down = true
is_down foot.Ring = true

-- A box is inside another: at a deeper level and in rows of the other. It begins in the other's first row
-- only where the other began above the section, and ends in its last row only where the other goes on below.
pub record IsInside (a b : DrawnBox) : Type 0 where
  pub deeper : b.level < a.level
  pub begins : (b.top < a.top) ⊎ ((b.is_up ≡ true) × (b.top ≤ a.top))
  pub ends : (a.row < b.row) ⊎ ((is_down b.foot ≡ true) × (a.row ≤ b.row))

-- Two boxes of a lane are in different sections, or have no row in common, or one is inside the other.
pub data LieWell (a b : Placed) : Type 0 where
  elsewhere : a.section ≢ b.section → LieWell a b
  above : a.box.row < b.box.top → LieWell a b
  below : b.box.row < a.box.top → LieWell a b
  inside : IsInside a.box b.box → LieWell a b
  around : IsInside b.box a.box → LieWell a b

-- ---- many boxes

-- The property holds of each item of a list.
abbrev pub Each : {X : Type 0} → (X → Type 0) → List X → Type 0
Each P [] = Unit {0}
Each P (x ∷ xs) = P x × Each P xs

-- Each two of them lie well.
abbrev pub AllNest : List Placed → Type 0
AllNest [] = Unit {0}
AllNest (a ∷ bs) = Each (LieWell a) bs × AllNest bs

-- The bytes of boxes, one behind another.
abbrev pub texts : List Placed → List ℕ
texts [] = []
texts (a ∷ bs) = box_text a.box ++ texts bs

-- ---- the boxes of a lane

-- A box in the section of this row.
abbrev pub placed : Start → DrawnBox → Placed
placed here b = record { section = here.section; box = b }

-- Those of all that is open when a section ends, of which the outermost has this depth.
abbrev pub boxes_below : Start → (lane : ℕ) → Foot → (depth : ℕ) → List Opening → List Placed
boxes_below here l f d [] = []
boxes_below here l f d (o ∷ os) = placed here (opening_box here l f d o) ∷ boxes_below here l f (d + 1) os

-- That of the innermost, which is closed.
abbrev pub box_of : Start → (lane depth : ℕ) → Option Opening → List Placed
box_of here l d None = []
box_of here l d (Some o) = placed here (opening_box here l foot.Inner d o) ∷ []

-- The box of what is innermost of all that is open in a lane; none where nothing is.
abbrev pub box_of_innermost : Start → (lane : ℕ) → List Opening → List Placed
box_of_innermost here l os = box_of here l (length os) (innermost os)

-- A body's box of lane 1 at a level, from a row of the first section to another.
abbrev pub box_at : (level top row : ℕ) → Placed
box_at d t r = record {
  section = 1;
  box = record {
    kind = kind.Body;
    hue = 3;
    lane = 1;
    level = d;
    top = t;
    row = r;
    is_up = false;
    foot = foot.Inner;
    text = inner.Call 1;
  };
}
