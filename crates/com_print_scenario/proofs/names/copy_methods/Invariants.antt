use Rattle.std.proofs.Common.{◌≡◌, take}
use Rattle.com_print_scenario.proofs.names.copy_methods.Given as goal

abbrev pub invariant-loop-method : goal.invariant-loop-method
invariant-loop-method l = l.copies.items ≡ take l.method-index l.methods
