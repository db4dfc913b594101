use Rattle.std.proofs.Common.{◌≡◌, ◌≤◌, ◌+◌, ◌++◌, take, vec_len, vec_capacity}
use Rattle.com_body.proofs.frame.append_copies.Given as goal

abbrev pub invariant-loop-value : goal.invariant-loop-value
invariant-loop-value l =
    (l.registers.items ≡ l.initial.registers.items ++ take l.value-index l.values) ×
    (vec_len l.registers ≤ vec_len l.initial.registers + l.value-index) ×
    (vec_capacity l.registers ≡ vec_capacity l.initial.registers)
