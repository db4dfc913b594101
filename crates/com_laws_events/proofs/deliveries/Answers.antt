use Rattle.com_laws_events.proofs.Within.{within-delivered, within-cookies, within-turns, within-all}
use Rattle.com_laws_events.proofs.deliveries.Goals as goal

pub returns-clause-sentence : goal.returns-clause-sentence
returns-clause-sentence c = within-delivered

pub returns-clause-cookies : goal.returns-clause-cookies
returns-clause-cookies c = within-cookies

pub returns-clause-turns : goal.returns-clause-turns
returns-clause-turns c = within-turns

pub returns-clause-all : goal.returns-clause-all
returns-clause-all c = within-all
