use Rattle.std.proofs.Common.{arith, length, ◌+◌}
use Rattle.com_lane_lists.proofs.StasKept.{length_tab}
use Rattle.com_lane_lists.proofs.stas.Stas.reserve_made.Goals as goal

pub returns-clause-room : goal.returns-clause-room
returns-clause-room c =
    omega (arith, length_tab (length c.reserve.new.self.items) (λ i. i + 3), c.in_ok-reserve.ensures.ok, c.reserve.new.self.ok.0)
