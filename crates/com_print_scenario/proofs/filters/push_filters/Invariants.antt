use Rattle.std.proofs.Common.{◌≡◌, ◌++◌, ◌+◌, drop}
use Rattle.com_print.specs.Spelled.{text_of}
use Rattle.com_print_scenario.specs.Printed.{filters_lines}
use Rattle.com_print_scenario.proofs.filters.push_filters.Given as goal

abbrev pub invariant-loop-index : goal.invariant-loop-index
invariant-loop-index l = l.out ++ text_of (filters_lines (l.index + 1) (drop l.index l.filters)) ≡ l.initial.out ++ text_of (filters_lines 1 l.filters)
