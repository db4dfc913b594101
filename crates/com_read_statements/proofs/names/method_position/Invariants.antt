use Rattle.std.proofs.Common.{◌≡◌, ◌+◌, drop}
use Rattle.std.specs.Prelude.{option_map}
use Rattle.com_read_statements.specs.Calls.{method_position}
use Rattle.com_read_statements.proofs.names.method_position.Given as goal

abbrev pub invariant-loop-i : goal.invariant-loop-i
invariant-loop-i l = option_map (λ k. k + l.i) (method_position (drop l.i l.methods) l.name) ≡ method_position l.methods l.name
