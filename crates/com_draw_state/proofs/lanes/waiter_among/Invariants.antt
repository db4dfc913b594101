use Rattle.std.proofs.Common.{◌≡◌, ◌+◌, length}
use Rattle.com_draw_state.specs.Lanes.{waiter_in}
use Rattle.com_draw_state.proofs.lanes.waiter_among.Given as goal

abbrev pub invariant-lanes : goal.invariant-lanes
invariant-lanes l = record {
  found : waiter_in l.lane l.rest l.call ≡ waiter_in 1 l.lanes l.call;
  counted : l.lane + length l.rest ≡ 1 + length l.lanes;
}

abbrev pub decreases-lanes : goal.decreases-lanes
decreases-lanes l = length l.rest
