use Rattle.std.proofs.Common.{◌≡◌, ◌++◌, ◌+◌}
use Rattle.com_draw_shapes.specs.Sections.{columns}
use Rattle.com_draw_shapes.proofs.sections.push_columns.Given as goal

abbrev pub invariant-columns : goal.invariant-columns
invariant-columns l = record {
  text : l.out ++ columns l.lane l.left ≡ l.initial.out ++ columns 1 l.count;
  counted : l.lane + l.left ≡ 1 + l.count;
}

abbrev pub decreases-columns : goal.decreases-columns
decreases-columns l = l.left
