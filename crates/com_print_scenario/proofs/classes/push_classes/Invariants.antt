use Rattle.std.proofs.Common.{◌≡◌, ◌++◌, ◌≤◌, ◌-◌, length, All, drop}
use Rattle.com_print.specs.Spelled.{text_of}
use Rattle.com_print_scenario.specs.Printed.{classes_lines}
use Rattle.com_print_scenario.specs.Ranges.{FitsClass}
use Rattle.com_print_scenario.proofs.classes.push_classes.Given as goal

abbrev pub invariant-classes : goal.invariant-classes
invariant-classes l = record {
  text : l.out ++ text_of (classes_lines l.names (drop l.number l.classes.classes)) ≡ l.initial.out ++ text_of (classes_lines l.names l.classes.classes);
  fits : All FitsClass (drop l.number l.classes.classes) → All FitsClass l.classes.classes;
  count : l.number ≤ length l.classes.classes;
}

abbrev pub decreases-classes : goal.decreases-classes
decreases-classes l = length l.classes.classes - l.number
