use Rattle.std.proofs.Common.{◌≡◌, take, All, map}
use Rattle.com_body.specs.Bodies.{IsArg}
use Rattle.com_dispatch.specs.Standing.{argument_of}
use Rattle.com_dispatch.proofs.invoke.standing.arguments.Given as goal

abbrev pub invariant-loop-arg : goal.invariant-loop-arg
invariant-loop-arg l = record {
  value : l.arguments.items ≡ map argument_of (take l.arg-index l.args);
  range : All IsArg l.arguments.items;
}
