use Rattle.std.proofs.Common.{append_assoc}
use Rattle.com_draw_labels.proofs.call_labels.push_refuse.Goals as goal

pub returns : goal.returns
returns c = simp append_assoc at (rw c.in_ok-push_word_and_number.ensures at c.push_hresult_behind.ensures)
