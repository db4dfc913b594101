use Rattle.std.proofs.Common.{◌≡◌, ◌++◌, ◌≤◌, ◌-◌, drop, length, map}
use Rattle.com_classes.specs.declared.classes.Class.{Class}
use Rattle.com_print_scenario.proofs.names.class_names.Given as goal

abbrev pub invariant-classes : goal.invariant-classes
invariant-classes l = record {
  named : l.names.items ++ map (λ (c : Class). c.name) (drop l.number l.classes.classes) ≡ map (λ (c : Class). c.name) l.classes.classes;
  count : l.number ≤ length l.classes.classes;
}

abbrev pub decreases-classes : goal.decreases-classes
decreases-classes l = length l.classes.classes - l.number
