use Rattle.std.proofs.Common.{◌≡◌, ◌++◌, length, map}
use Rattle.com_print.specs.Spelled.{more_text}
use Rattle.com_print_scenario.specs.Printed.{interface_name}
use Rattle.com_print_scenario.proofs.classes.push_listed.Given as goal

abbrev pub invariant-listed : goal.invariant-listed
invariant-listed l = l.out ++ more_text (map (interface_name l.names) l.rest) ≡ l.initial.out ++ more_text (map (interface_name l.names) l.interfaces)

abbrev pub decreases-listed : goal.decreases-listed
decreases-listed l = length l.rest
