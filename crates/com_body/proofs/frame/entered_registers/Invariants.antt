use Rattle.std.proofs.Common.{◌≡◌, ◌≤◌, take, vec_len, vec_capacity}
use Rattle.com_base.specs.declared.limits.TheConstants.{ANSWER_REGISTER}
use Rattle.com_body.specs.Frames.{plain_values}
use Rattle.com_body.proofs.frame.entered_registers.Given as goal

abbrev pub invariant-loop-value : goal.invariant-loop-value
invariant-loop-value l =
    (l.registers.items ≡ plain_values (take l.value-index l.values)) ×
    (vec_len l.registers ≤ l.value-index) ×
    (vec_capacity l.registers ≡ ANSWER_REGISTER)
