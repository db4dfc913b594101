use Rattle.std.proofs.Common.{◌≡◌, ◌++◌, ◌+◌, length}
use Rattle.com_draw_shapes.specs.Sections.{lanes_boxes}
use Rattle.com_draw_shapes.proofs.sections.push_lanes.Given as goal

abbrev pub invariant-lanes : goal.invariant-lanes
invariant-lanes l = record {
  text : l.out ++ lanes_boxes l.here l.cycle l.number l.rest
      ≡ l.initial.out ++ lanes_boxes l.here l.cycle 1 l.lanes;
  counted : l.number + length l.rest ≡ 1 + length l.lanes;
}

abbrev pub decreases-lanes : goal.decreases-lanes
decreases-lanes l = length l.rest
