use Rattle.std.proofs.Common.{◌≡◌, [], drop}
use Rattle.com_read_lines.specs.Declaring.{picks_on}
use Rattle.com_read_lines.proofs.declare.picks.Given as goal

abbrev pub invariant-loop-i : goal.invariant-loop-i
invariant-loop-i l = picks_on l.picks.items l.line l.i (drop l.i l.line) ≡ picks_on [] l.line 1 (drop 1 l.line)
