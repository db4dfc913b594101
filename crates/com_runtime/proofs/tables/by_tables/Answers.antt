use Rattle.com_runtime.proofs.Runs.{runs-as, runs-first}
use Rattle.com_runtime.proofs.tables.by_tables.Goals as goal

pub returns-clause-later : goal.returns-clause-later
returns-clause-later c = λ s st h n picks last f p e. runs-as s f n st h picks last p e

pub returns-clause-first : goal.returns-clause-first
returns-clause-first c = runs-first
