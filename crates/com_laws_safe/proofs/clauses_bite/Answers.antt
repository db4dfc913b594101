use Rattle.com_laws_safe.proofs.Bites.{legal-three, legal-six, legal-pumped, legal-posted, legal-answered, legal-two, apartment-bites, one-stack-bites, reentry-bites, once-bites, balance-bites, release-bites, causes-bites}
use Rattle.com_laws_safe.proofs.clauses_bite.Goals as goal

pub returns-clause-apartment : goal.returns-clause-apartment
returns-clause-apartment c = (legal-posted, apartment-bites)

pub returns-clause-one_stack : goal.returns-clause-one_stack
returns-clause-one_stack c = (legal-pumped, one-stack-bites)

pub returns-clause-reentry : goal.returns-clause-reentry
returns-clause-reentry c = (legal-answered, reentry-bites)

pub returns-clause-once : goal.returns-clause-once
returns-clause-once c = (legal-three, once-bites)

pub returns-clause-balance : goal.returns-clause-balance
returns-clause-balance c = (legal-two, balance-bites)

pub returns-clause-release : goal.returns-clause-release
returns-clause-release c = (legal-six, release-bites)

pub returns-clause-causes : goal.returns-clause-causes
returns-clause-causes c = (legal-three, causes-bites)
