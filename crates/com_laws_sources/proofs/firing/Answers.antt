use Rattle.com_laws_sources.proofs.Lists.{between-is}
use Rattle.com_laws_sources.proofs.Fired.{begins, one-round, four-rounds, stays}
use Rattle.com_laws_sources.proofs.firing.Goals as goal

pub returns-clause-begins : goal.returns-clause-begins
returns-clause-begins c = begins

pub returns-clause-round : goal.returns-clause-round
returns-clause-round c = λ d sinks given sent event last reached f k at h. one-round sent h event last reached f d sinks given at k

pub returns-clause-over : goal.returns-clause-over
returns-clause-over c = λ d sinks given event last reached f k at. four-rounds event last reached f d sinks given at k

pub returns-clause-written : goal.returns-clause-written
returns-clause-written c = stays

pub returns-clause-rises : goal.returns-clause-rises
returns-clause-rises c = λ sinks last reached to e. between-is reached last sinks to e
