use Rattle.std.proofs.Common.{◌≡◌, ◌++◌, length, map}
use Rattle.com_print.specs.Spelled.{more_text}
use Rattle.com_print_scenario.specs.Printed.{kind_word}
use Rattle.com_print_scenario.proofs.interfaces.push_kinds.Given as goal

abbrev pub invariant-kinds : goal.invariant-kinds
invariant-kinds l = l.out ++ more_text (map (kind_word l.names) l.rest) ≡ l.initial.out ++ more_text (map (kind_word l.names) l.kinds)

abbrev pub decreases-kinds : goal.decreases-kinds
decreases-kinds l = length l.rest
