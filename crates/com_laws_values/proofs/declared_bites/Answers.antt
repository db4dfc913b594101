use Rattle.com_laws_values.proofs.Bites.{legal-one, holds-bites, names-bites}
use Rattle.com_laws_values.proofs.declared_bites.Goals as goal

pub returns-clause-holds : goal.returns-clause-holds
returns-clause-holds c = (legal-one, holds-bites)

pub returns-clause-names : goal.returns-clause-names
returns-clause-names c = (legal-one, names-bites)
