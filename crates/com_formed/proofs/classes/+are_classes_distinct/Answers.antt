use Rattle.com_model.specs.Formed.{same_class}
use Rattle.com_formed.proofs.Walks.{distinct_then, distinct_else, distinct_past}
use Rattle.com_formed.proofs.classes.+are_classes_distinct.Goals as goal

pub returns-in_default : goal.returns-in_default
returns-in_default t c = distinct_past same_class c.args.classes.now.classes c.args.index c.in_default.ensures

pub returns-then-is_class_new : goal.returns-then-is_class_new
returns-then-is_class_new t c =
    distinct_then same_class c.args.classes.now.classes c.args.index c.in-Some.class.now
    c.is_class_new.result c.are_classes_distinct.result c.in-Some.ensures c.if-is_class_new.true c.is_class_new.ensures c.are_classes_distinct.ensures

pub returns-else-is_class_new : goal.returns-else-is_class_new
returns-else-is_class_new t c =
    distinct_else same_class c.args.classes.now.classes c.args.index c.in-Some.class.now
    c.is_class_new.result c.in-Some.ensures c.if-is_class_new.false c.is_class_new.ensures
