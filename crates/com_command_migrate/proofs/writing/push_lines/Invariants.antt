use Rattle.std.proofs.Common.{length}
use Rattle.com_command_migrate.proofs.Pushed.{Written}
use Rattle.com_command_migrate.proofs.writing.push_lines.Given as goal

abbrev pub invariant-entries : goal.invariant-entries
invariant-entries l = Written l.history l.rest l.fn.out l.out

abbrev pub decreases-entries : goal.decreases-entries
decreases-entries l = length l.rest
