use Rattle.std.proofs.lemmas.Bool.Decides.{Decides-at}
use Rattle.com_turns.proofs.Cells.{cells_decided}
use Rattle.com_turns.proofs.work.same_cells.Goals as goal

pub returns : goal.returns
returns c = Decides-at c.eq.result _ c.eq.ensures (cells_decided c.args.left.now c.args.right.now)
