use Rattle.std.proofs.Common.{◌+◌, ap, sym, ◌∙◌, position}
use Rattle.std.specs.Option.{option_map}
use Rattle.indexmap.specs.IndexMap.{keys, values}
use Rattle.com_classes.specs.Lookups.{find_class}
use Rattle.com_classes.specs.Indexed.{same_key}
use Rattle.com_classes.proofs.Keys.{found_class}
use Rattle.com_classes.proofs.classes.Classes.find_class.Goals as goal

pub returns-in-Some : goal.returns-in-Some
returns-in-Some c =
    let ks = keys c.self.inside.classes in
    let found = c.get_index_of.ensures.index ∙ ap (λ k. position (same_key k) ks) c.key_of.ensures ∙ found_class c.args.clsid.now ks (values c.self.inside.classes) c.self.invariant.class_keys in
    ap (option_map (λ before. before + 1)) (sym c.in-Some.is ∙ found) ∙ ap (λ t. find_class t c.args.clsid.now) c.self.view_is

pub returns-in-None : goal.returns-in-None
returns-in-None c =
    let ks = keys c.self.inside.classes in
    let found = c.get_index_of.ensures.index ∙ ap (λ k. position (same_key k) ks) c.key_of.ensures ∙ found_class c.args.clsid.now ks (values c.self.inside.classes) c.self.invariant.class_keys in
    ap (option_map (λ before. before + 1)) (sym c.in-None.is ∙ found) ∙ ap (λ t. find_class t c.args.clsid.now) c.self.view_is
