use Rattle.std.proofs.Common.{append_assoc}
use Rattle.com_draw_labels.proofs.call_labels.push_out.Goals as goal

pub returns : goal.returns
returns c =
    simp append_assoc (simp append_assoc at (rw (c.in_ok-push_all-2.ensures.ok, c.in_ok-push_object.ensures, c.in_ok-push_all.ensures.ok) at c.push_method.ensures))
