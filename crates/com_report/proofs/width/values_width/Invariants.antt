use Rattle.std.proofs.Common.{◌≡◌, ◌+◌, length}
use Rattle.com_report.specs.Width.{values_width}
use Rattle.com_report.proofs.width.values_width.Given as goal

abbrev pub invariant-values : goal.invariant-values
invariant-values l = l.width + values_width l.rest ≡ values_width l.values

abbrev pub decreases-values : goal.decreases-values
decreases-values l = length l.rest
