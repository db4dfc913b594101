use Rattle.std.proofs.Common.{◌≡◌, ◌≤◌, ◌<◌, ◌+◌, ◌-◌, ◌^◌, [], length, drop}
use Rattle.com_text.specs.Scanning.{lines_from, at_line}
use Rattle.com_text.specs.Runs.{between}
use Rattle.com_text.proofs.line.line_at.Given as goal

abbrev pub invariant-pieces : goal.invariant-pieces
invariant-pieces l = record {
  size : length l.text < 2 ^ 32 - 2;
  low : l.at ≤ l.from;
  high : l.from ≤ length l.text;
  lines : lines_from (between l.line ((l.from + 1) - l.at) l.from) l.words.items (drop l.from l.text) ≡ lines_from (at_line l.line l.at) [] (drop l.at l.text);
}

abbrev pub decreases-pieces : goal.decreases-pieces
decreases-pieces l = length l.text - l.from
