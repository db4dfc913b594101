use Rattle.com_laws_sources.proofs.Cookies.{cookie-is}
use Rattle.com_laws_sources.proofs.Advised.{unadvise-removed, unadvise-none, unadvise-either}
use Rattle.com_laws_sources.proofs.unadvising.Goals as goal

pub returns-clause-removed : goal.returns-clause-removed
returns-clause-removed c = λ d sinks last n k t h. unadvise-removed n d sinks last k t h

pub returns-clause-none : goal.returns-clause-none
returns-clause-none c = λ d sinks last n k z f. unadvise-none n d sinks last k z f

pub returns-clause-cookie : goal.returns-clause-cookie
returns-clause-cookie c = cookie-is

pub returns-clause-either : goal.returns-clause-either
returns-clause-either c = λ d sinks last n k. unadvise-either n d sinks last k
