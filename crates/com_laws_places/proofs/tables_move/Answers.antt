use Rattle.com_laws_places.proofs.Tables.{tables-move}
use Rattle.com_laws_places.proofs.tables_move.Goals as goal

pub returns : goal.returns
returns c = tables-move
