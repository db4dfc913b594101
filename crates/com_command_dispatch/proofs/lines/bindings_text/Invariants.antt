use Rattle.std.proofs.Common.{◌≡◌, ◌++◌, ◌+◌, length}
use Rattle.com_command_dispatch.specs.Lines.{bindings_on}
use Rattle.com_command_dispatch.proofs.lines.bindings_text.Given as goal

abbrev pub invariant-each : goal.invariant-each
invariant-each l = record {
  text : l.out ++ bindings_on l.number l.rest ≡ bindings_on 1 l.bindings;
  number : l.number + length l.rest ≡ 1 + length l.bindings;
}

abbrev pub decreases-each : goal.decreases-each
decreases-each l = length l.rest
