use Rattle.std.proofs.Common.{ap, ◌∙◌}
use Rattle.indexmap.specs.IndexMap.{keys, values}
use Rattle.com_classes.specs.Lookups.{find_interface}
use Rattle.com_classes.proofs.Keys.{found_interface, unrefused_interface}
use Rattle.com_classes.proofs.classes.Classes.put_interface.Goals as goal

pub append_interface-requires : goal.append_interface-requires
append_interface-requires c =
    let inside = c.self.inside in
    found_interface c.args.interface.iid (keys inside.interfaces) (values inside.interfaces) c.self.invariant.interface_keys ∙
    ap (λ t. find_interface t c.args.interface.iid) c.self.view_is ∙ (unrefused_interface c.args.self.now c.args.interface c.requires).0
