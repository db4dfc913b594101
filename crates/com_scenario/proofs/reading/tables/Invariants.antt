use Rattle.std.proofs.Common.{◌≡◌, ◌++◌, [], drop}
use Rattle.com_classes.specs.BuiltIns.{built_in_interfaces}
use Rattle.com_scenario.proofs.reading.tables.Given as goal

abbrev pub invariant-loop-interface : goal.invariant-loop-interface
invariant-loop-interface l = l.classes ≡ record { interfaces = built_in_interfaces ++ l.yielded; classes = [] }

abbrev pub invariant-loop-class : goal.invariant-loop-class
invariant-loop-class l = l.classes ≡ record { interfaces = built_in_interfaces ++ drop 4 l.fn.interfaces; classes = l.yielded }
