use Rattle.std.proofs.Common.{◌≡◌, ◌+◌, [], drop}
use Rattle.std.specs.Prelude.{All}
use Rattle.com_body.specs.Bodies.{IsArg}
use Rattle.com_read_statements.specs.Calls.{arguments_on}
use Rattle.com_read_statements.proofs.calls.arguments.Given as goal

abbrev pub invariant-loop-i : goal.invariant-loop-i
invariant-loop-i l = record {
  value : arguments_on l.arguments.items (drop l.i l.params) l.line (3 + l.i) ≡ arguments_on [] l.params l.line 3;
  range : All IsArg l.arguments.items;
}
