-- The arrow of an entry, and the mark of the object that it touches.
use Rattle.std.specs.Prelude.{ℕ, ◌+◌, ◌*◌, List, [], Option, Some, None}
use Rattle.com_draw_state.specs.declared.lanes.Waiter.{Waiter}
use Rattle.com_draw_state.specs.Board.{State}
use Rattle.com_draw_state.specs.Lanes.{depth_of, lane_at}
use Rattle.com_draw_state.specs.Tracks.{track_of}
use Rattle.com_draw_words.specs.declared.arrows.ArrowKind.{ArrowKind}
use Rattle.com_draw_words.specs.declared.arrows.ArrowKind.TheVariants as kind
use Rattle.com_draw_words.specs.Arrows.{arrow_text}
use Rattle.com_draw_words.specs.Boxes.{touch_text}
use Rattle.com_draw_shapes.specs.declared.effects.Points.{Points}
use Rattle.com_draw_shapes.specs.declared.effects.Points.TheVariants as point
use Rattle.com_draw_shapes.specs.Boxes.{objects_lane}

-- Between a lane, at this level, and who waits for its call, where somebody does.
abbrev pub called_arrow : ArrowKind → (lane level : ℕ) → Option Waiter → List ℕ
called_arrow k l j None = []
called_arrow k l j (Some w) =
    arrow_text (record { kind = k; other = w.lane; other_level = w.depth; lane = l; level = j })

-- The arrow of an entry in a lane of this depth, as the board was before.
unfoldable pub pointing_text : Points → (lane depth : ℕ) → Option Waiter → State → List ℕ
pointing_text point.Nowhere l d w b = []
pointing_text (point.Word m) l d w b =
    arrow_text (record {
      kind = kind.Word;
      other = m;
      other_level = depth_of (lane_at b.lanes m);
      lane = l;
      level = d;
    })
pointing_text point.Refusal l d w b = called_arrow kind.Refusal l d w
pointing_text point.Go l d w b = called_arrow kind.Go l (d + 1) w
pointing_text point.Answer l d w b = called_arrow kind.Answer l d w

-- The mark on the track of this number, in the lane of the objects; none where the object has no track.
abbrev pub touch_on : (lane : ℕ) → (number : Option ℕ) → List ℕ
touch_on m None = []
touch_on m (Some k) = touch_text m (2 * k)

-- The mark of the object that an entry touches, where it has a track.
unfoldable pub touched_text : (object : Option ℕ) → State → List ℕ
touched_text None b = []
touched_text (Some o) b = touch_on (objects_lane b) (track_of 0 o b.tracks)
