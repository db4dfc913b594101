use Rattle.com_parts.proofs.Wholes.{whole_new}
use Rattle.com_parts.proofs.parts.Parts.new.Goals as goal

pub invariant_of-result : goal.invariant_of-result
invariant_of-result c = whole_new c.in_ok-new.field-0.tables c.new-2.result.tables c.in_ok-new-2.field-0 c.args.lanes c.in_ok-new.ensures c.new-2.ensures c.in_ok-new-2.ensures.tables c.in_ok-new-2.ensures.apartments
