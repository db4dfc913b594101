use Rattle.com_draw_state.proofs.Mapped.{few_lanes}
use Rattle.com_draw_state.proofs.board.Board.begin.Goals as goal

pub invariant_of-result : goal.invariant_of-result
invariant_of-result c =
    few_lanes _ _ _ _ _ _ _ _ _ c.new-lanes.ensures.items c.in_ok-add_lanes.ensures c.in_ok-add_lanes-2.ensures
    c.in_ok-add_lanes-3.ensures c.requires
