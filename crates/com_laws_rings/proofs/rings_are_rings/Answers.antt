use Rattle.com_laws_rings.proofs.Rings.{is-ring, each-leads-into, is-only-ring}
use Rattle.com_laws_rings.proofs.rings_are_rings.Goals as goal

pub returns-clause-ring : goal.returns-clause-ring
returns-clause-ring c = is-ring

pub returns-clause-entered : goal.returns-clause-entered
returns-clause-entered c = each-leads-into

pub returns-clause-only : goal.returns-clause-only
returns-clause-only c = is-only-ring
