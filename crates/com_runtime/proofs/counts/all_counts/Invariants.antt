use Rattle.std.proofs.Common.{◌≡◌, map}
use Rattle.com_model.specs.Lists.{one_to}
use Rattle.com_runtime.specs.Reports.{counts_in}
use Rattle.com_runtime.proofs.counts.all_counts.Given as goal

abbrev pub invariant-loop-number : goal.invariant-loop-number
invariant-loop-number g l = l.all.items ≡ map (counts_in l.scenario (g.C.Runtime.state l.runtime)) (one_to l.number)
