use Rattle.std.proofs.Common.{◌≡◌, ◌++◌, length}
use Rattle.com_command_dispatch.specs.Lines.{later_args_text}
use Rattle.com_command_dispatch.proofs.lines.push_later.Given as goal

abbrev pub invariant-each : goal.invariant-each
invariant-each l = l.out ++ later_args_text l.rest ≡ l.initial.out ++ later_args_text l.args

abbrev pub decreases-each : goal.decreases-each
decreases-each l = length l.rest
