use Rattle.std.proofs.Common.{◌≡◌, drop}
use Rattle.com_read_operands.specs.Numbers.{digits_on}
use Rattle.com_read_operands.proofs.numbers.number_of.Given as goal

abbrev pub invariant-loop-byte : goal.invariant-loop-byte
invariant-loop-byte l = digits_on l.number (drop l.byte-index l.bytes) ≡ digits_on 0 l.bytes
