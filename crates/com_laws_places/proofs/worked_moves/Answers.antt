use Rattle.com_laws_places.proofs.Worked.{worked}
use Rattle.com_laws_places.proofs.worked_moves.Goals as goal

pub returns : goal.returns
returns c = worked
