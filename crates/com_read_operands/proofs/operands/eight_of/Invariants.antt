use Rattle.std.proofs.Common.{◌≡◌, Some, drop}
use Rattle.com_read_operands.specs.Operands.{hex_on}
use Rattle.com_read_operands.proofs.operands.eight_of.Given as goal

abbrev pub invariant-loop-digit : goal.invariant-loop-digit
invariant-loop-digit l = hex_on (Some l.number) (drop l.digit-index l.digits) ≡ hex_on (Some 0) l.digits
