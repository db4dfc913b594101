use Rattle.std.proofs.Common.{◌≡◌, ◌++◌, ◌+◌}
use Rattle.com_draw.specs.Fronts.{names_of}
use Rattle.com_draw.proofs.fronts.push_names.Given as goal

abbrev pub invariant-names : goal.invariant-names
invariant-names l = record {
  text : l.out ++ names_of l.kind l.lane l.left ≡ l.initial.out ++ names_of l.kind l.first l.count;
  counted : l.lane + l.left ≡ l.first + l.count;
}

abbrev pub decreases-names : goal.decreases-names
decreases-names l = l.left
