-- The bytes of boxes are those that the page has of them.
use Rattle.std.proofs.Common.{◌≡◌, ℕ, List, [], ◌∷◌, ◌++◌, ◌+◌, refl, ap, sym, append-nil, Option, Some, None, length}
use Rattle.com_draw_state.specs.declared.lanes.Lane.{Lane}
use Rattle.com_draw_state.specs.declared.stacks.Opening.{Opening}
use Rattle.com_draw_state.specs.declared.stacks.Start.{Start}
use Rattle.com_draw_state.specs.Board.{State}
use Rattle.com_draw_state.specs.Lanes.{lane_at}
use Rattle.com_draw_state.specs.Stacks.{innermost}
use Rattle.com_draw_words.specs.declared.boxes.Foot.{Foot}
use Rattle.com_draw_words.specs.declared.boxes.Foot.TheVariants as foot
use Rattle.com_draw_words.specs.Boxes.{box_text}
use Rattle.com_draw_shapes.specs.declared.effects.Closing.TheVariants as close
use Rattle.com_draw_shapes.specs.Boxes.{closing_boxes, home_boxes, innermost_box, innermost_boxes, opening_box, opening_boxes, opening_text}
use Rattle.com_draw_shapes.specs.Sections.{foot_in, lane_boxes}
use Rattle.com_laws_draw.specs.Boxes.{box_of, box_of_innermost, boxes_below, texts}
use Rattle.com_laws_draw.specs.Lanes.{box_closed, openings_of}

one_text : (here : Start) (l d : ℕ) (v : Option Opening) → innermost_box here l d v ≡ texts (box_of here l d v)
unfolding opening_text
one_text here l d None = refl
one_text here l d (Some o) = sym (append-nil (box_text (opening_box here l foot.Inner d o)))

lane_text : (here : Start) (l : ℕ) (v : Option Lane)
    → innermost_boxes here l v ≡ texts (box_of_innermost here l (openings_of v))
lane_text here l None = refl
lane_text here l (Some row) = one_text here l (length row.openings) (innermost row.openings)

pub closing_texts : (here : Start) (l : ℕ) (b : State)
    → closing_boxes here l close.Innermost b ≡ texts (box_closed here l close.Innermost b)
unfolding closing_boxes
closing_texts here l b = lane_text here l (lane_at b.lanes l)

below_texts : (here : Start) (l : ℕ) (f : Foot) (d : ℕ) (os : List Opening)
    → opening_boxes here l f d os ≡ texts (boxes_below here l f d os)
unfolding opening_text
below_texts here l f d [] = refl
below_texts here l f d (o ∷ os) =
    ap (λ (t : List ℕ). box_text (opening_box here l f d o) ++ t) (below_texts here l f (d + 1) os)

pub section_texts : (here : Start) (cycle : List ℕ) (l : ℕ) (row : Lane) → lane_boxes here cycle l row
    ≡ home_boxes here l foot.Down row.home ++ texts (boxes_below here l (foot_in cycle l) 1 row.openings)
unfolding lane_boxes
section_texts here cycle l row =
    ap (λ (t : List ℕ). home_boxes here l foot.Down row.home ++ t) (below_texts here l (foot_in cycle l) 1 row.openings)
