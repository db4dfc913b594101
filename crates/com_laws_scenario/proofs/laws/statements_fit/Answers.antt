use Rattle.com_laws_scenario.proofs.Statements.{stmt_formed}
use Rattle.com_laws_scenario.proofs.laws.statements_fit.Goals as goal

pub returns : goal.returns
returns c = stmt_formed
