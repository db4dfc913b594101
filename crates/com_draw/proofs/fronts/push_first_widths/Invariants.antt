use Rattle.std.proofs.Common.{◌≡◌, ◌≤◌, ◌++◌, ◌+◌}
use Rattle.com_draw.specs.Fronts.{first_widths}
use Rattle.com_draw.proofs.fronts.push_first_widths.Given as goal

abbrev pub invariant-widths : goal.invariant-widths
invariant-widths l = record {
  text : l.out ++ first_widths l.lane l.left ≡ l.initial.out ++ first_widths 1 l.count;
  counted : l.lane + l.left ≡ 1 + l.count;
  from_one : 1 ≤ l.lane;
}

abbrev pub decreases-widths : goal.decreases-widths
decreases-widths l = l.left
