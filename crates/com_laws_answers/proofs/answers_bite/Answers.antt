use Rattle.com_laws_answers.proofs.Standing.{entries-bite, time-bites, made-bites, stands-bites}
use Rattle.com_laws_answers.proofs.answers_bite.Goals as goal

pub returns-clause-entries : goal.returns-clause-entries
returns-clause-entries c = entries-bite

pub returns-clause-time : goal.returns-clause-time
returns-clause-time c = time-bites

pub returns-clause-made : goal.returns-clause-made
returns-clause-made c = made-bites

pub returns-clause-stands : goal.returns-clause-stands
returns-clause-stands c = stands-bites
