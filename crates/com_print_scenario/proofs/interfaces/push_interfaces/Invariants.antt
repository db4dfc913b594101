use Rattle.std.proofs.Common.{◌≡◌, ◌++◌, length, All}
use Rattle.com_print.specs.Spelled.{text_of}
use Rattle.com_print_scenario.specs.Printed.{interface_lines}
use Rattle.com_print_scenario.specs.Ranges.{FitsInterface}
use Rattle.com_print_scenario.proofs.interfaces.push_interfaces.Given as goal

abbrev pub invariant-interfaces : goal.invariant-interfaces
invariant-interfaces l = record {
  text : l.out ++ text_of (interface_lines l.names l.rest) ≡ l.initial.out ++ text_of (interface_lines l.names l.interfaces);
  fits : All FitsInterface l.rest → All FitsInterface l.interfaces;
}

abbrev pub decreases-interfaces : goal.decreases-interfaces
decreases-interfaces l = length l.rest
