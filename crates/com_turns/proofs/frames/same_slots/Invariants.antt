use Rattle.std.proofs.Common.{◌≡◌, ◌<◌, ℕ}
use Rattle.com_body.specs.Operands.{slot_of}
use Rattle.com_turns.proofs.frames.same_slots.Given as goal

abbrev pub invariant-loop-number : goal.invariant-loop-number
invariant-loop-number l = (r : ℕ) → r < l.number → slot_of l.left r ≡ slot_of l.right r
