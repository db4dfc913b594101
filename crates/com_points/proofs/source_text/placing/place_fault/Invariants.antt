use Rattle.std.proofs.Common.{◌≡◌, ◌≤◌, ◌<◌, ◌^◌, ◌+◌, ◌-◌, [], length, drop}
use Rattle.com_text.specs.Scanning.{lines_from, at_line, lines_of}
use Rattle.com_points.specs.Heads.{nothing_seen}
use Rattle.com_points.specs.Placing.{placed_on}
use Rattle.com_points.proofs.source_text.placing.place_fault.Given as goal

abbrev pub invariant-lines : goal.invariant-lines
invariant-lines l = record {
  size : length l.text < 2 ^ 32 - 2;
  at : l.at ≤ length l.text;
  line : l.line ≤ l.at + 1;
  lines : placed_on l.seen (lines_from (at_line l.line l.at) [] (drop l.at l.text)) l.fault ≡ placed_on nothing_seen (lines_of l.text) l.fn.fault;
}

abbrev pub decreases-lines : goal.decreases-lines
decreases-lines l = length l.text + 1 - l.at
