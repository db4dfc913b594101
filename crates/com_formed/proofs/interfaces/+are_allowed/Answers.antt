use Rattle.com_model.specs.Formed.{IsAllowed}
use Rattle.com_formed.proofs.Walks.{all_then, all_else}
use Rattle.com_formed.proofs.interfaces.+are_allowed.Goals as goal

pub returns-then-is_allowed : goal.returns-then-is_allowed
returns-then-is_allowed t c =
    all_then IsAllowed c.args.classes.now.interfaces c.args.number c.in-Some.interface.now
    c.is_allowed.result c.are_allowed.result c.in-Some.ensures c.if-is_allowed.true c.is_allowed.ensures c.are_allowed.ensures

pub returns-else-is_allowed : goal.returns-else-is_allowed
returns-else-is_allowed t c =
    all_else IsAllowed c.args.classes.now.interfaces c.args.number c.in-Some.interface.now
    c.is_allowed.result c.in-Some.ensures c.if-is_allowed.false c.is_allowed.ensures
