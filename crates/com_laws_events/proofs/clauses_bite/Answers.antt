use Rattle.com_laws_events.proofs.Bites.{legal-firing, sentence-bites, cookies-bite, turns-bite, all-bites}
use Rattle.com_laws_events.proofs.clauses_bite.Goals as goal

pub returns-clause-sentence : goal.returns-clause-sentence
returns-clause-sentence c = (legal-firing, sentence-bites)

pub returns-clause-cookies : goal.returns-clause-cookies
returns-clause-cookies c = cookies-bite

pub returns-clause-turns : goal.returns-clause-turns
returns-clause-turns c = turns-bite

pub returns-clause-all : goal.returns-clause-all
returns-clause-all c = all-bites
