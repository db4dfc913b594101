-- The boxes, arrows and marks of a picture are closed.
use Rattle.std.proofs.Common.{List, None, Option, Some, [], length, nat_le, ℕ, ◌*◌, ◌+◌, ◌∷◌}
use Rattle.com_draw_shapes.specs.Arrows.{called_arrow, pointing_text, touch_on, touched_text}
use Rattle.com_draw_shapes.specs.Boxes.{chosen_track, closing_boxes, cut_boxes, home_box, home_boxes, home_in, innermost_box, innermost_boxes, life_boxes, objects_lane, opening_box, opening_boxes, opening_text, track_box, track_boxes}
use Rattle.com_draw_shapes.specs.declared.boxes.Chosen.TheVariants as chosen
use Rattle.com_draw_shapes.specs.declared.boxes.Chosen.{Chosen}
use Rattle.com_draw_shapes.specs.declared.effects.Closing.TheVariants as close
use Rattle.com_draw_shapes.specs.declared.effects.Closing.{Closing}
use Rattle.com_draw_shapes.specs.declared.effects.Points.TheVariants as point
use Rattle.com_draw_shapes.specs.declared.effects.Points.{Points}
use Rattle.com_draw_state.specs.Board.{State}
use Rattle.com_draw_state.specs.Lanes.{depth_of, lane_at}
use Rattle.com_draw_state.specs.Stacks.{innermost}
use Rattle.com_draw_state.specs.Tracks.{track_of}
use Rattle.com_draw_state.specs.declared.lanes.Home.{Home}
use Rattle.com_draw_state.specs.declared.lanes.Lane.{Lane}
use Rattle.com_draw_state.specs.declared.lanes.Waiter.{Waiter}
use Rattle.com_draw_state.specs.declared.stacks.Opening.{Opening}
use Rattle.com_draw_state.specs.declared.stacks.Start.{Start}
use Rattle.com_draw_state.specs.declared.tracks.Track.{Track}
use Rattle.com_draw_words.specs.declared.arrows.ArrowKind.TheVariants as arrow
use Rattle.com_draw_words.specs.declared.arrows.ArrowKind.{ArrowKind}
use Rattle.com_draw_words.specs.declared.boxes.Foot.TheVariants as foot
use Rattle.com_draw_words.specs.declared.boxes.Foot.{Foot}
use Rattle.com_laws_markup.proofs.Leading.{both, either}
use Rattle.com_laws_markup.proofs.Words.{closed_arrow, closed_box, closed_none, closed_touch}
use Rattle.com_laws_markup.specs.Closed.{IsClosed}

-- ---- boxes

pub closed_home_boxes : (here : Start) (l : ℕ) (f : Foot) (home : Option Home) → IsClosed (home_boxes here l f home)
unfolding home_boxes
closed_home_boxes here l f None = closed_none
closed_home_boxes here l f (Some home) = closed_box (home_box here l f home)

closed_opening : (here : Start) (l : ℕ) (f : Foot) (d : ℕ) (o : Opening) → IsClosed (opening_text here l f d o)
unfolding opening_text
closed_opening here l f d o = closed_box (opening_box here l f d o)

pub closed_opening_boxes : (here : Start) (l : ℕ) (f : Foot) (d : ℕ) (os : List Opening) → IsClosed (opening_boxes here l f d os)
closed_opening_boxes here l f d [] = closed_none
closed_opening_boxes here l f d (o ∷ os) = both (closed_opening here l f d o) (closed_opening_boxes here l f (d + 1) os)

closed_life_boxes : (here : Start) (m : ℕ) (f : Foot) (k : ℕ) (t : Option Track) → IsClosed (life_boxes here m f k t)
unfolding life_boxes
closed_life_boxes here m f k None = closed_none
closed_life_boxes here m f k (Some t) = closed_box (track_box here m f k t)

pub closed_track_boxes : (here : Start) (m : ℕ) (f : Foot) (x : Chosen) (k : ℕ) (ts : List (Option Track))
    → IsClosed (track_boxes here m f x k ts)
closed_track_boxes here m f x k [] = closed_none
closed_track_boxes here m f x k (t ∷ ts) =
    both (closed_life_boxes here m f k (chosen_track x t)) (closed_track_boxes here m f x (k + 1) ts)

-- ---- what an entry closes

closed_cut_boxes : (here : Start) (a : ℕ) (b : State) → IsClosed (cut_boxes here a b)
closed_cut_boxes here a b =
    either (nat_le 3 a) (closed_track_boxes here (objects_lane b) foot.Inner (chosen.LiveIn a) 0 b.tracks) closed_none

closed_innermost_box : (here : Start) (l d : ℕ) (o : Option Opening) → IsClosed (innermost_box here l d o)
closed_innermost_box here l d None = closed_none
closed_innermost_box here l d (Some o) = closed_opening here l foot.Inner d o

closed_innermost_boxes : (here : Start) (l : ℕ) (row : Option Lane) → IsClosed (innermost_boxes here l row)
closed_innermost_boxes here l None = closed_none
closed_innermost_boxes here l (Some row) =
    closed_innermost_box here l (length row.openings) (innermost row.openings)

pub closed_closing_boxes : (here : Start) (l : ℕ) (x : Closing) (b : State) → IsClosed (closing_boxes here l x b)
unfolding closing_boxes
closed_closing_boxes here l close.Nothing b = closed_none
closed_closing_boxes here l (close.Home a) b =
    both (closed_home_boxes here l foot.Inner (home_in (lane_at b.lanes l))) (closed_cut_boxes here a b)
closed_closing_boxes here l close.Innermost b = closed_innermost_boxes here l (lane_at b.lanes l)
closed_closing_boxes here l (close.Cut o) b =
    closed_track_boxes here (objects_lane b) foot.Inner (chosen.LiveOf o) 0 b.tracks
closed_closing_boxes here l (close.Life o) b =
    closed_track_boxes here (objects_lane b) foot.Inner (chosen.Of o) 0 b.tracks

-- ---- arrows, and the marks of objects

closed_called_arrow : (k : ArrowKind) (l j : ℕ) (w : Option Waiter) → IsClosed (called_arrow k l j w)
closed_called_arrow k l j None = closed_none
closed_called_arrow k l j (Some w) =
    closed_arrow (record { kind = k; other = w.lane; other_level = w.depth; lane = l; level = j })

pub closed_pointing : (x : Points) (l d : ℕ) (w : Option Waiter) (b : State) → IsClosed (pointing_text x l d w b)
unfolding pointing_text
closed_pointing point.Nowhere l d w b = closed_none
closed_pointing (point.Word m) l d w b =
    closed_arrow (record { kind = arrow.Word; other = m; other_level = depth_of (lane_at b.lanes m); lane = l; level = d })
closed_pointing point.Refusal l d w b = closed_called_arrow arrow.Refusal l d w
closed_pointing point.Go l d w b = closed_called_arrow arrow.Go l (d + 1) w
closed_pointing point.Answer l d w b = closed_called_arrow arrow.Answer l d w

closed_touch_on : (m : ℕ) (k : Option ℕ) → IsClosed (touch_on m k)
closed_touch_on m None = closed_none
closed_touch_on m (Some k) = closed_touch m (2 * k)

pub closed_touched : (o : Option ℕ) (b : State) → IsClosed (touched_text o b)
unfolding touched_text
closed_touched None b = closed_none
closed_touched (Some o) b = closed_touch_on (objects_lane b) (track_of 0 o b.tracks)
