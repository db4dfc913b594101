use Rattle.std.proofs.Common.{◌≡◌}
use Rattle.com_model.specs.Lists.{tabulated}
use Rattle.com_lanes.proofs.lanes.new_table.Given as goal

abbrev pub invariant-loop-i : goal.invariant-loop-i
invariant-loop-i g l = l.table.items ≡ tabulated l.i (λ k. l.row)
