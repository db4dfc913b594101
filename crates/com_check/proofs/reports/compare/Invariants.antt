use Rattle.std.proofs.Common.{◌<◌, ◌^◌, ◌+◌, length}
use Rattle.com_check.specs.Lines.{lines_of}
use Rattle.com_check.proofs.Beside.{Beside}
use Rattle.com_check.proofs.reports.compare.Given as goal

abbrev pub invariant-lines : goal.invariant-lines
invariant-lines l = record {
  beside : Beside l.before (lines_of l.report) (lines_of l.trace) l.line l.legal l.found;
  fits : l.line + length l.legal + 1 < 2 ^ 64;
}

abbrev pub decreases-lines : goal.decreases-lines
decreases-lines l = length l.legal
