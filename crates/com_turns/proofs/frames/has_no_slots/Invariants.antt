use Rattle.std.proofs.Common.{◌≡◌, ◌<◌, ℕ}
use Rattle.std.specs.Prelude.{None}
use Rattle.com_body.specs.Operands.{slot_of}
use Rattle.com_turns.proofs.frames.has_no_slots.Given as goal

abbrev pub invariant-loop-number : goal.invariant-loop-number
invariant-loop-number l = (r : ℕ) → r < l.number → slot_of l.frame r ≡ None
