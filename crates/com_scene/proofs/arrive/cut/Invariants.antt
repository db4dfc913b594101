use Rattle.std.proofs.Common.{◌≡◌, ◌++◌, length, take, drop}
use Rattle.com_model.specs.Lists.{each_from}
use Rattle.com_scene.specs.Steps.{cut_by}
use Rattle.com_scene.proofs.arrive.cut.Given as goal

abbrev pub invariant-loop-object : goal.invariant-loop-object
invariant-loop-object l = record {
  rows : l.cells.items ≡ each_from (cut_by l.fn.owners l.fn.apartment) 0 (take l.object l.fn.cells.items) ++ drop l.object l.fn.cells.items;
  count : length l.cells.items ≡ length l.fn.cells.items;
}
