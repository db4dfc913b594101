use Rattle.std.proofs.Common.{◌≡◌, ◌≤◌, ◌<◌, ◌^◌, ◌+◌, ◌-◌, [], length, drop}
use Rattle.com_text.specs.Scanning.{lines_from, at_line, lines_of}
use Rattle.com_dispatch.specs.Late.{late_read, late_begun}
use Rattle.com_dispatch.proofs.UnderWay.{IsUnderWay}
use Rattle.com_dispatch.proofs.elaborating.late_outline.Given as goal

abbrev pub invariant-lines : goal.invariant-lines
invariant-lines l = record {
  size : length l.text < 2 ^ 32 - 2;
  at : l.at ≤ length l.text;
  line : l.line ≤ l.at + 1;
  lines : late_read (record { state = l.st; bindings = l.bindings.items }) (lines_from (at_line l.line l.at) [] (drop l.at l.text)) ≡ late_read (late_begun l.fn.built_in) (lines_of l.text);
  under_way : IsUnderWay l.st (lines_from (at_line l.line l.at) [] (drop l.at l.text));
}

abbrev pub decreases-lines : goal.decreases-lines
decreases-lines l = length l.text + 1 - l.at
