use Rattle.std.proofs.Common.{◌≡◌, []}
use Rattle.com_lane_lists.specs.Rooms.{numbers_in}
use Rattle.com_model.specs.Lists.{tabulated}
use Rattle.com_lane_lists.proofs.stas.no_numbers.Given as goal

abbrev pub invariant-loop-i : goal.invariant-loop-i
invariant-loop-i l = numbers_in l.lists.items ≡ tabulated l.i (λ k. [])
