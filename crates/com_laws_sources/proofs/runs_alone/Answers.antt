use Rattle.com_laws_sources.proofs.Runs.{legal-still, legal-leaves}
use Rattle.com_laws_sources.proofs.runs_alone.Goals as goal

pub returns-clause-still : goal.returns-clause-still
returns-clause-still c = legal-still

pub returns-clause-leaves : goal.returns-clause-leaves
returns-clause-leaves c = legal-leaves
