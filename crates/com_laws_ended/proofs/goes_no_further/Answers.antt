use Rattle.com_laws_ended.proofs.Going.{finished-none, stuck-none}
use Rattle.com_laws_ended.proofs.goes_no_further.Goals as goal

pub returns-clause-finished : goal.returns-clause-finished
returns-clause-finished c = finished-none

pub returns-clause-stuck : goal.returns-clause-stuck
returns-clause-stuck c = stuck-none
