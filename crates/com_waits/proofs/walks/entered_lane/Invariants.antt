use Rattle.std.proofs.Common.{◌≡◌, length}
use Rattle.com_model.specs.Calls.{admitted}
use Rattle.com_waits.specs.Walks.{lane_in, told}
use Rattle.com_waits.proofs.walks.entered_lane.Given as goal

abbrev pub invariant-entries : goal.invariant-entries
invariant-entries l = lane_in (admitted (told l.rest) l.call) ≡ lane_in (admitted (told l.history) l.call)

abbrev pub decreases-entries : goal.decreases-entries
decreases-entries l = length l.rest
