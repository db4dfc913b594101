use Rattle.std.proofs.Common.{append_assoc}
use Rattle.com_draw_labels.proofs.call_labels.push_gave.Goals as goal

pub returns : goal.returns
returns c =
    simp append_assoc (simp append_assoc at (rw (c.in_ok-push_hresult_word.ensures, c.in_ok-push_all.ensures.ok) at c.push_given.ensures))
