use Rattle.std.proofs.Common.{◌≡◌, false}
use Rattle.com_model.specs.Formed.{same_class}
use Rattle.com_formed.proofs.Walks.{all_then, all_else}
use Rattle.com_formed.proofs.classes.+is_class_new.Goals as goal

pub returns-then-are_apart : goal.returns-then-are_apart
returns-then-are_apart t c =
    all_then (λ other. same_class c.args.class.now other ≡ false) c.args.classes.now.classes c.args.index c.in-Some.other.now
    c.are_apart.result c.is_class_new.result c.in-Some.ensures c.if-are_apart.true c.are_apart.ensures c.is_class_new.ensures

pub returns-else-are_apart : goal.returns-else-are_apart
returns-else-are_apart t c =
    all_else (λ other. same_class c.args.class.now other ≡ false) c.args.classes.now.classes c.args.index c.in-Some.other.now
    c.are_apart.result c.in-Some.ensures c.if-are_apart.false c.are_apart.ensures
