use Rattle.std.proofs.Common.{◌≤◌, length}
use Rattle.com_formed.proofs.tables.count_classes.Given as goal

abbrev pub invariant-loop-index : goal.invariant-loop-index
invariant-loop-index l = l.index ≤ length l.classes.classes
