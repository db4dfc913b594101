use Rattle.com_scenario.proofs.Again.{law}
use Rattle.com_scenario.proofs.printing.printed_is_read.Goals as goal

pub returns : goal.returns
returns c = law
