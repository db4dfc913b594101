use Rattle.std.proofs.Common.{append_assoc, w64}
use Rattle.std.proofs.lemmas.Int.{to_z-of_z}
use Rattle.com_draw_labels.proofs.call_labels.push_later_label.Goals as goal

pub returns : goal.returns
returns c =
    let same_answer = to_z-of_z w64 c.args.answer c.ranges.answer in
    simp (append_assoc, same_answer) at (rw c.in_ok-push_word_and_number.ensures at c.push_later.ensures)
