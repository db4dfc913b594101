use Rattle.com_laws_ranges.proofs.Standing.{few, place}
use Rattle.com_laws_ranges.proofs.counters.Goals as goal

pub returns-clause-few : goal.returns-clause-few
returns-clause-few c = few

pub returns-clause-place : goal.returns-clause-place
returns-clause-place c = place
