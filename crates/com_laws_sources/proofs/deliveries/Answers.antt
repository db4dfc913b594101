use Rattle.com_laws_sources.proofs.Delivered.{legal-delivered, legal-cookies, legal-order, legal-turns, legal-all}
use Rattle.com_laws_sources.proofs.deliveries.Goals as goal

pub returns-clause-sentence : goal.returns-clause-sentence
returns-clause-sentence c = legal-delivered

pub returns-clause-cookies : goal.returns-clause-cookies
returns-clause-cookies c = legal-cookies

pub returns-clause-order : goal.returns-clause-order
returns-clause-order c = legal-order

pub returns-clause-turns : goal.returns-clause-turns
returns-clause-turns c = legal-turns

pub returns-clause-all : goal.returns-clause-all
returns-clause-all c = legal-all
