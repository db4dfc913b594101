use Rattle.com_laws_sources.proofs.Sourced.{source-runs, sinks-after}
use Rattle.com_laws_sources.proofs.source_calls.Goals as goal

pub returns-clause-bodies : goal.returns-clause-bodies
returns-clause-bodies c = source-runs

pub returns-clause-sinks : goal.returns-clause-sinks
returns-clause-sinks c = sinks-after
