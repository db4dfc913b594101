use Rattle.std.proofs.Common.{◌≡◌, ◌++◌, length}
use Rattle.hex.specs.Hex.{encode_lower}
use Rattle.com_print.proofs.operands.values.push_digits.Given as goal

abbrev pub invariant-pieces : goal.invariant-pieces
invariant-pieces l = record { text : l.out ++ encode_lower l.rest ≡ l.initial.out ++ encode_lower l.bytes }

abbrev pub decreases-pieces : goal.decreases-pieces
decreases-pieces l = length l.rest
