use Rattle.std.proofs.Common.{append_assoc}
use Rattle.com_draw_labels.proofs.call_labels.push_spaced_hresult.Goals as goal

pub returns : goal.returns
returns c = simp append_assoc at (rw c.in_ok-push_all.ensures.ok at c.push_hresult.ensures)
