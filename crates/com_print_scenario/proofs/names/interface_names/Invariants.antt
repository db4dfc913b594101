use Rattle.std.proofs.Common.{◌≡◌, take, map}
use Rattle.com_classes.specs.declared.interfaces.Interface.{Interface}
use Rattle.com_print_scenario.proofs.names.interface_names.Given as goal

abbrev pub invariant-loop-interface : goal.invariant-loop-interface
invariant-loop-interface l = l.names.items ≡ map (λ (i : Interface). i.name) (take l.interface-index l.tables)
