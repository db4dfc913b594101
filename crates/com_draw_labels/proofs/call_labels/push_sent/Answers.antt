use Rattle.std.proofs.Common.{append_assoc, w64}
use Rattle.std.proofs.lemmas.Int.{to_z-of_z}
use Rattle.com_draw_labels.proofs.call_labels.push_sent.Goals as goal

pub returns : goal.returns
returns c =
    let same_to = to_z-of_z w64 c.args.to c.ranges.to in
    let same_word = to_z-of_z w64 c.args.word c.ranges.word in
    simp (append_assoc, same_to, same_word) at (rw c.in_ok-push_words_signed.ensures at c.push_words_signed-2.ensures)
