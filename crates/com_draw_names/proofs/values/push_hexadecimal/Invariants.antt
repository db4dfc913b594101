use Rattle.std.proofs.Common.{◌≡◌, ◌++◌, length}
use Rattle.hex.specs.Hex.{encode_lower}
use Rattle.com_draw_names.proofs.values.push_hexadecimal.Given as goal

abbrev pub invariant-pieces : goal.invariant-pieces
invariant-pieces l = l.out ++ encode_lower l.rest ≡ l.initial.out ++ encode_lower l.bytes

abbrev pub decreases-pieces : goal.decreases-pieces
decreases-pieces l = length l.rest
