use Rattle.std.proofs.Common.{◌≡◌, ◌≤◌, ◌<◌, ◌^◌, ◌+◌, ◌-◌, [], length, drop}
use Rattle.com_text.specs.Scanning.{lines_from, at_line, lines_of}
use Rattle.com_read_sections.specs.Outlines.{begun, read}
use Rattle.com_read_sections.proofs.outline.outline_of.Given as goal

abbrev pub invariant-lines : goal.invariant-lines
invariant-lines l = record {
  size : length l.text < 2 ^ 32 - 2;
  at : l.at ≤ length l.text;
  line : l.line ≤ l.at + 1;
  lines : read l.st (lines_from (at_line l.line l.at) [] (drop l.at l.text)) ≡ read (begun l.fn.built_in) (lines_of l.text);
}

abbrev pub decreases-lines : goal.decreases-lines
decreases-lines l = length l.text + 1 - l.at
