use Rattle.std.proofs.Common.{◌≡◌, ◌++◌, length, map}
use Rattle.com_print.specs.Spelled.{more_text}
use Rattle.com_print_scenario.specs.Printed.{number_word}
use Rattle.com_print_scenario.proofs.filters.push_numbers.Given as goal

abbrev pub invariant-numbers : goal.invariant-numbers
invariant-numbers l = l.out ++ more_text (map number_word l.rest) ≡ l.initial.out ++ more_text (map number_word l.numbers)

abbrev pub decreases-numbers : goal.decreases-numbers
decreases-numbers l = length l.rest
