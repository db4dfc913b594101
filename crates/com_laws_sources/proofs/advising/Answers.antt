use Rattle.com_laws_sources.proofs.Advised.{fresh-keeps, advise-null, advise-full, advise-taken}
use Rattle.com_laws_sources.proofs.advising.Goals as goal

pub returns-clause-null : goal.returns-clause-null
returns-clause-null c = advise-null

pub returns-clause-full : goal.returns-clause-full
returns-clause-full c = λ d sinks last sink k q. advise-full sink d sinks last k q

pub returns-clause-taken : goal.returns-clause-taken
returns-clause-taken c = λ d sinks last sink k q f. advise-taken sink d sinks last k q f

pub returns-clause-fresh : goal.returns-clause-fresh
returns-clause-fresh c = fresh-keeps
