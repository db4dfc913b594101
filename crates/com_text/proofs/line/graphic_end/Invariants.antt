use Rattle.com_text.specs.Runs.{GoesOn}
use Rattle.com_text.proofs.line.graphic_end.Given as goal

abbrev pub invariant-loop-i : goal.invariant-loop-i
invariant-loop-i l = GoesOn l.text l.from l.i
