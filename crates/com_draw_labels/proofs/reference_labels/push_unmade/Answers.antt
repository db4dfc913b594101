use Rattle.std.proofs.Common.{append_assoc}
use Rattle.com_draw_labels.proofs.reference_labels.push_unmade.Goals as goal

pub returns : goal.returns
returns c =
    simp append_assoc at (rw (c.in_ok-push_class.ensures, c.in_ok-push_all.ensures.ok) at c.push_hresult_behind.ensures)
