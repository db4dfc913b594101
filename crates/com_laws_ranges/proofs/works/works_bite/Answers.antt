use Rattle.com_laws_ranges.proofs.Bites.{legal-two, legal-three, unissued-declared, unmade-issued, unissued-bites, unmade-bites}
use Rattle.com_laws_ranges.proofs.works.works_bite.Goals as goal

pub returns-clause-issued : goal.returns-clause-issued
returns-clause-issued c = (legal-two, unissued-declared, unissued-bites)

pub returns-clause-declared : goal.returns-clause-declared
returns-clause-declared c = (legal-three, unmade-issued, unmade-bites)
