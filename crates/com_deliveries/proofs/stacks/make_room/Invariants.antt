use Rattle.std.proofs.Common.{◌≡◌, ℕ, ◌+◌, ◌-◌, vec_len}
use Rattle.com_deliveries.specs.Rows.{opened_in}
use Rattle.com_deliveries.proofs.stacks.make_room.Given as goal

abbrev pub invariant-lanes : goal.invariant-lanes
invariant-lanes l = (call : ℕ) → opened_in l.lane call l.lanes.items ≡ opened_in l.lane call l.initial.lanes.items

abbrev pub decreases-lanes : goal.decreases-lanes
decreases-lanes l = l.lane + 1 - vec_len l.lanes
