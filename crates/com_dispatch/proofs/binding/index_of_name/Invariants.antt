use Rattle.std.proofs.Common.{◌≡◌, ◌+◌, drop}
use Rattle.std.specs.Prelude.{option_map}
use Rattle.com_dispatch.specs.Binding.{index_of_name}
use Rattle.com_dispatch.proofs.binding.index_of_name.Given as goal

abbrev pub invariant-loop-i : goal.invariant-loop-i
invariant-loop-i l = option_map (λ k. k + l.i) (index_of_name (drop l.i l.methods) l.name) ≡ index_of_name l.methods l.name
