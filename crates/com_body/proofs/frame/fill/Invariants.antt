use Rattle.std.proofs.Common.{◌≡◌, vec_len, vec_capacity}
use Rattle.com_base.specs.declared.value.Value.{Value}
use Rattle.com_body.specs.Frames.{padded}
use Rattle.com_body.proofs.frame.fill.Given as goal

abbrev pub invariant-loop : goal.invariant-loop
invariant-loop l =
    ((a : Value) → padded l.registers.items a ≡ padded l.initial.registers.items a) ×
    (vec_len l.registers ≡ l.counter) ×
    (vec_capacity l.registers ≡ vec_capacity l.initial.registers)
