use Rattle.std.proofs.Common.{◌≡◌, ◌++◌, ◌+◌, length}
use Rattle.com_model.specs.Text.{object_lines}
use Rattle.com_report.proofs.reports.objects.Given as goal

abbrev pub invariant-objects : goal.invariant-objects
invariant-objects l = record {
  front : l.text.front ≡ l.initial.text.front;
  text : l.text.text ++ object_lines l.number l.rest ≡ l.initial.text.text ++ object_lines 1 l.counts;
  number : l.number + length l.rest ≡ 1 + length l.counts;
}

abbrev pub decreases-objects : goal.decreases-objects
decreases-objects l = length l.rest
