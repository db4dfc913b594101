use Rattle.std.proofs.Common.{◌≡◌, ◌++◌, length}
use Rattle.com_print.specs.Spelled.{text_of}
use Rattle.com_print_scenario.specs.Printed.{rules_lines}
use Rattle.com_print_scenario.proofs.filters.push_rules.Given as goal

abbrev pub invariant-rules : goal.invariant-rules
invariant-rules l = l.out ++ text_of (rules_lines l.rest) ≡ l.initial.out ++ text_of (rules_lines l.rules)

abbrev pub decreases-rules : goal.decreases-rules
decreases-rules l = length l.rest
