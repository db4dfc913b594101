use Rattle.com_model.specs.Formed.{same_interface}
use Rattle.com_formed.proofs.Walks.{distinct_then, distinct_else, distinct_past}
use Rattle.com_formed.proofs.interfaces.+are_interfaces_distinct.Goals as goal

pub returns-in_default : goal.returns-in_default
returns-in_default t c = distinct_past same_interface c.args.classes.now.interfaces c.args.number c.in_default.ensures

pub returns-then-is_interface_new : goal.returns-then-is_interface_new
returns-then-is_interface_new t c =
    distinct_then same_interface c.args.classes.now.interfaces c.args.number c.in-Some.interface.now
    c.is_interface_new.result c.are_interfaces_distinct.result c.in-Some.ensures c.if-is_interface_new.true c.is_interface_new.ensures c.are_interfaces_distinct.ensures

pub returns-else-is_interface_new : goal.returns-else-is_interface_new
returns-else-is_interface_new t c =
    distinct_else same_interface c.args.classes.now.interfaces c.args.number c.in-Some.interface.now
    c.is_interface_new.result c.in-Some.ensures c.if-is_interface_new.false c.is_interface_new.ensures
