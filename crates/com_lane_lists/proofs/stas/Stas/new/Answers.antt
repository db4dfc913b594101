use Rattle.std.proofs.Common.{◌+◌}
use Rattle.com_lane_lists.proofs.StasKept.{kept_none}
use Rattle.com_lane_lists.proofs.stas.Stas.new.Goals as goal

pub invariant_of-result : goal.invariant_of-result
invariant_of-result c = rw (c.in_ok-made.ensures, c.new.ensures.items, c.new-2.ensures.items) (kept_none (c.args.lanes + 1))
