use Rattle.std.proofs.Common.{◌≡◌, ◌<◌, ℕ}
use Rattle.com_body.specs.Operands.{register_of}
use Rattle.com_turns.proofs.frames.same_registers.Given as goal

abbrev pub invariant-loop-number : goal.invariant-loop-number
invariant-loop-number l = (r : ℕ) → r < l.number → register_of l.left r ≡ register_of l.right r
