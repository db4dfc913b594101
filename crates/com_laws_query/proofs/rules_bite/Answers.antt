use Rattle.com_laws_query.proofs.Bites.{legal-two, legal-three, legal-four, answers-bite, refused-bites, identity-bites, static-set-bites, reflexive-bites, symmetric-bites, transitive-bites}
use Rattle.com_laws_query.proofs.rules_bite.Goals as goal

pub returns-clause-answers : goal.returns-clause-answers
returns-clause-answers c = (legal-two, answers-bite)

pub returns-clause-refused : goal.returns-clause-refused
returns-clause-refused c = (legal-two, refused-bites)

pub returns-clause-identity : goal.returns-clause-identity
returns-clause-identity c = (legal-two, identity-bites)

pub returns-clause-static_set : goal.returns-clause-static_set
returns-clause-static_set c = (legal-four, static-set-bites)

pub returns-clause-reflexive : goal.returns-clause-reflexive
returns-clause-reflexive c = (legal-four, reflexive-bites)

pub returns-clause-symmetric : goal.returns-clause-symmetric
returns-clause-symmetric c = (legal-three, symmetric-bites)

pub returns-clause-transitive : goal.returns-clause-transitive
returns-clause-transitive c = (legal-four, transitive-bites)
