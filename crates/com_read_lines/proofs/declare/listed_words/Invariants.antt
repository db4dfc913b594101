use Rattle.std.proofs.Common.{◌≡◌, [], drop}
use Rattle.com_read_lines.specs.Declaring.{listed_on}
use Rattle.com_read_lines.proofs.declare.listed_words.Given as goal

abbrev pub invariant-loop-i : goal.invariant-loop-i
invariant-loop-i l = listed_on l.names l.listed.items l.line l.i (drop l.i l.line) ≡ listed_on l.names [] l.line 4 (drop 4 l.line)
