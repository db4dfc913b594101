use Rattle.std.proofs.Common.{◌≡◌, drop}
use Rattle.com_read_operands.specs.Naming.{are_tail}
use Rattle.com_read_operands.proofs.names.are_tail.Given as goal

abbrev pub invariant-loop-byte : goal.invariant-loop-byte
invariant-loop-byte l = are_tail (drop l.byte-index l.bytes) ≡ are_tail l.bytes
