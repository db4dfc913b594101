use Rattle.std.proofs.Common.{◌≡◌, [], drop, All}
use Rattle.com_dispatch.specs.Ranges.{IsDispArg}
use Rattle.com_dispatch.specs.Invoking.{arguments_on}
use Rattle.com_dispatch.proofs.invoke.reading.arguments.Given as goal

abbrev pub invariant-loop-index : goal.invariant-loop-index
invariant-loop-index l = record {
  value : arguments_on l.arguments.items l.line l.index (drop l.index l.line) ≡ arguments_on [] l.line 4 (drop 4 l.line);
  range : All IsDispArg l.arguments.items;
}
