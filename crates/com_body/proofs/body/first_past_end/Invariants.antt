use Rattle.std.proofs.Common.{◌≡◌, drop}
use Rattle.com_body.specs.Bodies.{first_past_end}
use Rattle.com_body.proofs.body.first_past_end.Given as goal

abbrev pub invariant-loop-number : goal.invariant-loop-number
invariant-loop-number l = first_past_end (drop l.number l.statements) l.number ≡ first_past_end l.statements 0
