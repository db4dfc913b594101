use Rattle.std.proofs.Common.{◌≡◌, drop}
use Rattle.com_text.specs.Tokens.{stray_from}
use Rattle.com_text.proofs.stray.first_stray.Given as goal

abbrev pub invariant-loop-i : goal.invariant-loop-i
invariant-loop-i l = stray_from l.i (drop l.i l.text) ≡ stray_from 0 l.text
