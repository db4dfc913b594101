use Rattle.std.proofs.Common.{arith}
use Rattle.com_check.proofs.Values.{value_is_great}
use Rattle.com_check.proofs.fronts.value_of.Goals as goal

pub returns-then-value-gt4294967295-clause-none : goal.returns-then-value-gt4294967295-clause-none
returns-then-value-gt4294967295-clause-none c =
    λ _. value_is_great c.args.digits.now c.loop-digit.digit-index c.loop-digit.value (omega arith) c.loop-digit.invariant.value (omega arith)
