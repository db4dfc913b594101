use Rattle.std.proofs.Common.{◌≡◌, ◌≤◌, ◌*◌, ◌++◌, ◌+◌, length}
use Rattle.com_draw.specs.Widths.{lane_rules, total_width}
use Rattle.com_draw.proofs.widths.push_rules.Given as goal

abbrev pub invariant-lanes : goal.invariant-lanes
invariant-lanes l = record {
  text : l.out ++ lane_rules l.number l.from l.rest ≡ l.initial.out ++ lane_rules 1 0 l.lanes;
  total : l.from + total_width l.rest ≡ total_width l.lanes;
  counted : l.number + length l.rest ≡ 1 + length l.lanes;
  few : l.from + 65535 ≤ 65535 * l.number;
}

abbrev pub decreases-lanes : goal.decreases-lanes
decreases-lanes l = length l.rest
