use Rattle.std.proofs.Common.{◌≡◌, ◌++◌, length, map}
use Rattle.com_print.specs.Spelled.{text_of}
use Rattle.com_print_scenario.specs.Printed.{method_words}
use Rattle.com_print_scenario.proofs.interfaces.push_methods.Given as goal

abbrev pub invariant-methods : goal.invariant-methods
invariant-methods l = l.out ++ text_of (map (method_words l.names) l.rest) ≡ l.initial.out ++ text_of (map (method_words l.names) l.methods)

abbrev pub decreases-methods : goal.decreases-methods
decreases-methods l = length l.rest
