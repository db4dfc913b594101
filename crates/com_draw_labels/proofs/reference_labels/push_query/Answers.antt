use Rattle.std.proofs.Common.{append_assoc}
use Rattle.com_draw_labels.proofs.reference_labels.push_query.Goals as goal

pub returns : goal.returns
returns c =
    simp append_assoc (simp append_assoc at (rw (c.in_ok-push_interface.ensures, c.in_ok-push_all.ensures.ok, c.in_ok-push_object.ensures) at c.push_hresult_if.ensures))
