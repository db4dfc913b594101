use Rattle.std.proofs.Common.{◌≡◌, ◌+◌, length}
use Rattle.com_draw_state.specs.Lanes.{waiter_at}
use Rattle.com_draw_state.proofs.lanes.waiter_at.Given as goal

abbrev pub invariant-openings : goal.invariant-openings
invariant-openings l = record {
  found : waiter_at l.lane l.depth l.rest l.call ≡ waiter_at l.lane 1 l.openings l.call;
  counted : l.depth + length l.rest ≡ 1 + length l.openings;
}

abbrev pub decreases-openings : goal.decreases-openings
decreases-openings l = length l.rest
