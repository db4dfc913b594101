use Rattle.com_text.specs.Runs.{StaysIn}
use Rattle.com_text.proofs.line.characters_end.Given as goal

abbrev pub invariant-loop-i : goal.invariant-loop-i
invariant-loop-i l = StaysIn l.text l.from l.i
