use Rattle.std.proofs.Common.{◌≡◌, ◌≤◌, ◌<◌, ◌^◌, ◌+◌, ◌-◌, [], length, drop}
use Rattle.com_text.specs.Scanning.{lines_from, at_line, lines_of}
use Rattle.com_check.specs.Cuts.{cut_of}
use Rattle.com_check.proofs.cut.cut_text.Given as goal

abbrev pub invariant-lines : goal.invariant-lines
invariant-lines l = record {
  size : length l.text < 2 ^ 32 - 2;
  at : l.at ≤ length l.text;
  line : l.line ≤ l.at + 1;
  lines : cut_of l.at (lines_from (at_line l.line l.at) [] (drop l.at l.text)) ≡ cut_of 0 (lines_of l.text);
}

abbrev pub decreases-lines : goal.decreases-lines
decreases-lines l = length l.text + 1 - l.at
