use Rattle.com_draw_shapes.proofs.Depths.{acted_depth}
use Rattle.com_draw_shapes.proofs.changes.change.Goals as goal

pub open-requires : goal.open-requires
open-requires c = acted_depth _ _ _ c.act.ensures c.requires.depth
