use Rattle.std.proofs.Common.{◌≡◌, None, ap, ◌∙◌}
use Rattle.indexmap.specs.IndexMap.{keys, values}
use Rattle.com_classes.specs.Lookups.{find_class}
use Rattle.com_classes.proofs.Keys.{found_class, unrefused_class, unmapped}
use Rattle.com_classes.proofs.classes.Classes.put_class.Goals as goal

pub append_class-requires : goal.append_class-requires
append_class-requires c =
    let inside = c.self.inside in
    let free : find_class c.args.self.now c.args.class.clsid ≡ None = (unrefused_class c.args.self.now c.args.class c.requires).0 in
    found_class c.args.class.clsid (keys inside.classes) (values inside.classes) c.self.invariant.class_keys ∙
    unmapped _ (ap (λ t. find_class t c.args.class.clsid) c.self.view_is ∙ free)
