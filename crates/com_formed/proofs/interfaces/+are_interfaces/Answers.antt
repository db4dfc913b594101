use Rattle.com_model.specs.Formed.{IsInterface}
use Rattle.com_formed.proofs.Walks.{each_then, each_else}
use Rattle.com_formed.proofs.interfaces.+are_interfaces.Goals as goal

pub returns-then-is_interface : goal.returns-then-is_interface
returns-then-is_interface t c =
    each_then IsInterface c.args.classes.now.interfaces c.args.number c.args.number c.in-Some.interface.now
    c.is_interface.result c.are_interfaces.result c.in-Some.ensures c.if-is_interface.true c.is_interface.ensures c.are_interfaces.ensures

pub returns-else-is_interface : goal.returns-else-is_interface
returns-else-is_interface t c =
    each_else IsInterface c.args.classes.now.interfaces c.args.number c.args.number c.in-Some.interface.now
    c.is_interface.result c.in-Some.ensures c.if-is_interface.false c.is_interface.ensures
