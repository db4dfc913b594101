use Rattle.com_laws_rings.proofs.Bites.{two-cycle, third-cycle, no-cycle, ring-bites, least-bites, once-bites, entered-bites, line-bites, relation-bites}
use Rattle.com_laws_rings.proofs.cycles_bite.Goals as goal

pub returns-clause-two : goal.returns-clause-two
returns-clause-two c = two-cycle

pub returns-clause-third : goal.returns-clause-third
returns-clause-third c = third-cycle

pub returns-clause-messages : goal.returns-clause-messages
returns-clause-messages c = no-cycle

pub returns-clause-ring : goal.returns-clause-ring
returns-clause-ring c = ring-bites

pub returns-clause-least : goal.returns-clause-least
returns-clause-least c = least-bites

pub returns-clause-once : goal.returns-clause-once
returns-clause-once c = once-bites

pub returns-clause-entered : goal.returns-clause-entered
returns-clause-entered c = entered-bites

pub returns-clause-line : goal.returns-clause-line
returns-clause-line c = line-bites

pub returns-clause-relation : goal.returns-clause-relation
returns-clause-relation c = relation-bites
