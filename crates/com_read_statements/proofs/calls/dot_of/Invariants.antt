use Rattle.std.proofs.Common.{◌≡◌, ◌+◌, drop}
use Rattle.std.specs.Prelude.{option_map}
use Rattle.com_read_statements.specs.Calls.{dot_of}
use Rattle.com_read_statements.proofs.calls.dot_of.Given as goal

abbrev pub invariant-loop-i : goal.invariant-loop-i
invariant-loop-i l = option_map (λ k. k + l.i) (dot_of (drop l.i l.bytes)) ≡ dot_of l.bytes
