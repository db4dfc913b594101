use Rattle.com_text.specs.Runs.{Skips}
use Rattle.com_text.proofs.line.spaces_end.Given as goal

abbrev pub invariant-loop-i : goal.invariant-loop-i
invariant-loop-i l = Skips l.text l.from l.i
