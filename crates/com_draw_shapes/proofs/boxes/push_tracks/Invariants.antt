use Rattle.std.proofs.Common.{◌≡◌, ◌++◌, ◌+◌, length}
use Rattle.com_draw_shapes.specs.Boxes.{track_boxes}
use Rattle.com_draw_shapes.proofs.boxes.push_tracks.Given as goal

abbrev pub invariant-tracks : goal.invariant-tracks
invariant-tracks l = record {
  text : l.out ++ track_boxes l.here l.lane l.foot l.chosen l.number l.rest
      ≡ l.initial.out ++ track_boxes l.here l.lane l.foot l.chosen 0 l.tracks;
  counted : l.number + length l.rest ≡ length l.tracks;
}

abbrev pub decreases-tracks : goal.decreases-tracks
decreases-tracks l = length l.rest
