use Rattle.std.proofs.Common.{◌≡◌, ◌++◌, ◌+◌, length}
use Rattle.com_draw_shapes.specs.Boxes.{opening_boxes}
use Rattle.com_draw_shapes.proofs.boxes.push_openings.Given as goal

abbrev pub invariant-openings : goal.invariant-openings
invariant-openings l = record {
  text : l.out ++ opening_boxes l.here l.lane l.foot l.depth l.rest
      ≡ l.initial.out ++ opening_boxes l.here l.lane l.foot 1 l.openings;
  counted : l.depth + length l.rest ≡ 1 + length l.openings;
}

abbrev pub decreases-openings : goal.decreases-openings
decreases-openings l = length l.rest
