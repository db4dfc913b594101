use Rattle.std.proofs.Common.{◌+◌}
use Rattle.com_model.specs.Formed.{IsClass}
use Rattle.com_formed.proofs.Walks.{each_then, each_else}
use Rattle.com_formed.proofs.classes.+are_classes.Goals as goal

pub returns-then-is_class : goal.returns-then-is_class
returns-then-is_class t c =
    each_then (IsClass c.args.scenario.now) c.args.scenario.now.classes.classes c.args.index (c.args.index + 1) c.in-Some.class.now
    c.is_class.result c.are_classes.result c.in-Some.ensures c.if-is_class.true c.is_class.ensures c.are_classes.ensures

pub returns-else-is_class : goal.returns-else-is_class
returns-else-is_class t c =
    each_else (IsClass c.args.scenario.now) c.args.scenario.now.classes.classes c.args.index (c.args.index + 1) c.in-Some.class.now
    c.is_class.result c.in-Some.ensures c.if-is_class.false c.is_class.ensures
