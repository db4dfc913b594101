use Rattle.std.proofs.Common.{◌≡◌, ◌++◌}
use Rattle.com_draw_state.specs.Board.{copies}
use Rattle.com_draw_state.specs.Lanes.{new_lane}
use Rattle.com_draw_state.proofs.board.add_lanes.Given as goal

abbrev pub invariant-lanes : goal.invariant-lanes
invariant-lanes l = l.lanes.items ++ copies l.left (new_lane l.home) ≡ l.initial.lanes.items ++ copies l.count (new_lane l.home)

abbrev pub decreases-lanes : goal.decreases-lanes
decreases-lanes l = l.left
