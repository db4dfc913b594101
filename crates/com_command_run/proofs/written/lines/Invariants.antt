use Rattle.std.proofs.Common.{◌≡◌, reverse, take}
use Rattle.com_model.specs.Text.{history_text}
use Rattle.com_command_run.proofs.written.lines.Given as goal

abbrev pub invariant-loop-at : goal.invariant-loop-at
invariant-loop-at l = l.out ≡ history_text l.version (reverse (take l.at l.entries))
