use Rattle.std.proofs.Common.{ap, ◌∙◌}
use Rattle.indexmap.specs.IndexMap.{insert_entry}
use Rattle.com_classes.specs.Indexed.{key_of, same_key}
use Rattle.com_classes.proofs.Keys.{appended}
use Rattle.com_classes.proofs.classes.append_class.Goals as goal

pub returns-in-Ok-clause-ok : goal.returns-in-Ok-clause-ok
returns-in-Ok-clause-ok c =
    c.in-Ok.ensures.entries ∙
    ap (λ k. insert_entry same_key c.args.table.now.entries k c.args.class) c.key_of.ensures ∙
    appended c.args.table.now (key_of c.args.class.clsid) c.args.class c.requires
