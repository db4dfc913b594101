use Rattle.std.proofs.Common.{◌≡◌, ◌++◌, ◌+◌, drop}
use Rattle.com_print_scenario.specs.Printed.{filter_names}
use Rattle.com_print_scenario.proofs.names.filter_names.Given as goal

abbrev pub invariant-loop-index : goal.invariant-loop-index
invariant-loop-index l = l.names.items ++ filter_names (l.index + 1) (drop l.index l.filters) ≡ filter_names 1 l.filters
