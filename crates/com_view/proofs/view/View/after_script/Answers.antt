use Rattle.std.proofs.Common.{arith}
use Rattle.com_view.proofs.view.View.after_script.Goals as goal

pub returns : goal.returns
returns c = λ b. let h = c.uninit_deed.ensures b in grind (arith, c.if-count-eq0, c.count.ensures)
