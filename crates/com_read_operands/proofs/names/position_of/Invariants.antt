use Rattle.std.proofs.Common.{◌≡◌, ◌+◌, drop}
use Rattle.std.specs.Prelude.{option_map}
use Rattle.com_read_operands.specs.Naming.{position_of}
use Rattle.com_read_operands.proofs.names.position_of.Given as goal

abbrev pub invariant-loop-i : goal.invariant-loop-i
invariant-loop-i l = option_map (λ k. k + l.i) (position_of (drop l.i l.names) l.name) ≡ position_of l.names l.name
