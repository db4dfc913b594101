use Rattle.std.proofs.Common.{append_assoc, w64}
use Rattle.std.proofs.lemmas.Int.{to_z-of_z}
use Rattle.com_draw_labels.proofs.words.push_words_signed.Goals as goal

pub returns : goal.returns
returns c =
    let same_number = to_z-of_z w64 c.args.number c.ranges.number in
    simp (append_assoc, same_number) at (rw c.in_ok-push_all.ensures.ok at c.push_signed.ensures)
