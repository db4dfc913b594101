use Rattle.std.proofs.Common.{◌≡◌, [], drop}
use Rattle.com_read_lines.specs.Methods.{signature_on}
use Rattle.com_read_lines.proofs.methods.signature_of.Given as goal

abbrev pub invariant-loop-i : goal.invariant-loop-i
invariant-loop-i l = signature_on l.interfaces l.params.items l.line l.i (drop l.i l.line) ≡ signature_on l.interfaces [] l.line 2 (drop 2 l.line)
