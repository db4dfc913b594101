use Rattle.com_laws_rings.proofs.Leading.{open-lane}
use Rattle.com_laws_rings.proofs.Lines.{names-lanes, lines-are-lanes, next-is}
use Rattle.com_laws_rings.proofs.lines_name_lanes.Goals as goal

pub returns-clause-names : goal.returns-clause-names
returns-clause-names c = names-lanes

pub returns-clause-lanes : goal.returns-clause-lanes
returns-clause-lanes c = lines-are-lanes

pub returns-clause-open : goal.returns-clause-open
returns-clause-open c = open-lane

pub returns-clause-relation : goal.returns-clause-relation
returns-clause-relation c = λ s h l f p t. next-is s h l p
