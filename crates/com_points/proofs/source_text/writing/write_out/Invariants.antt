use Rattle.std.proofs.Common.{◌≡◌, ◌++◌, ◌≤◌, ◌<◌, ◌^◌, ◌+◌, ◌-◌, [], length, drop}
use Rattle.com_text.specs.Scanning.{lines_from, at_line, lines_of}
use Rattle.com_points.specs.Heads.{nothing_seen}
use Rattle.com_points.specs.Writing.{written_on}
use Rattle.com_points.proofs.source_text.writing.write_out.Given as goal

abbrev pub invariant-lines : goal.invariant-lines
invariant-lines l = record {
  size : length l.text < 2 ^ 32 - 2;
  at : l.at ≤ length l.text;
  line : l.line ≤ l.at + 1;
  lines : l.out ++ written_on l.seen l.text l.at (lines_from (at_line l.line l.at) [] (drop l.at l.text)) ≡ written_on nothing_seen l.text 0 (lines_of l.text);
}

abbrev pub decreases-lines : goal.decreases-lines
decreases-lines l = length l.text + 1 - l.at
