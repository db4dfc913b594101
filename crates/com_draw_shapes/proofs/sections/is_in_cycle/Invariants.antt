use Rattle.std.proofs.Common.{◌≡◌, length}
use Rattle.com_model.specs.Lists.{is_member}
use Rattle.com_draw_shapes.proofs.sections.is_in_cycle.Given as goal

abbrev pub invariant-lanes : goal.invariant-lanes
invariant-lanes l = is_member l.lane l.rest ≡ is_member l.lane l.cycle

abbrev pub decreases-lanes : goal.decreases-lanes
decreases-lanes l = length l.rest
