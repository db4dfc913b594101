use Rattle.com_laws_query.proofs.Rules.{identity, static-set, reflexive, symmetric, transitive}
use Rattle.com_laws_query.proofs.rules_of_query.Goals as goal

pub returns-clause-identity : goal.returns-clause-identity
returns-clause-identity c = identity

pub returns-clause-static_set : goal.returns-clause-static_set
returns-clause-static_set c = static-set

pub returns-clause-reflexive : goal.returns-clause-reflexive
returns-clause-reflexive c = reflexive

pub returns-clause-symmetric : goal.returns-clause-symmetric
returns-clause-symmetric c = symmetric

pub returns-clause-transitive : goal.returns-clause-transitive
returns-clause-transitive c = transitive
