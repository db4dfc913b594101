use Rattle.std.proofs.Common.{append_assoc}
use Rattle.com_draw_names.proofs.failures.push_hresult_behind.Goals as goal

pub returns : goal.returns
returns c = simp append_assoc at (rw c.in_ok-push_all.ensures.ok at c.push_hresult.ensures)
