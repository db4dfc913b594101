use Rattle.std.proofs.Common.{ap, sym, ◌∙◌, position}
use Rattle.indexmap.specs.IndexMap.{keys, values}
use Rattle.com_classes.specs.Lookups.{find_interface}
use Rattle.com_classes.specs.Indexed.{same_key}
use Rattle.com_classes.proofs.Keys.{found_interface}
use Rattle.com_classes.proofs.classes.Classes.find_interface.Goals as goal

pub returns-in-Some : goal.returns-in-Some
returns-in-Some c =
    let ks = keys c.self.inside.interfaces in
    let found = c.get_index_of.ensures.index ∙ ap (λ k. position (same_key k) ks) c.key_of.ensures ∙ found_interface c.args.iid.now ks (values c.self.inside.interfaces) c.self.invariant.interface_keys in
    sym c.in-Some.is ∙ found ∙ ap (λ t. find_interface t c.args.iid.now) c.self.view_is

pub returns-in-None : goal.returns-in-None
returns-in-None c =
    let ks = keys c.self.inside.interfaces in
    let found = c.get_index_of.ensures.index ∙ ap (λ k. position (same_key k) ks) c.key_of.ensures ∙ found_interface c.args.iid.now ks (values c.self.inside.interfaces) c.self.invariant.interface_keys in
    sym c.in-None.is ∙ found ∙ ap (λ t. find_interface t c.args.iid.now) c.self.view_is
