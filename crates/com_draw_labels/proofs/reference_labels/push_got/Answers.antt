use Rattle.std.proofs.Common.{append_assoc, w64}
use Rattle.std.proofs.lemmas.Int.{to_z-of_z}
use Rattle.com_draw_labels.proofs.reference_labels.push_got.Goals as goal

pub returns : goal.returns
returns c =
    let same_cookie = to_z-of_z w64 c.args.cookie c.ranges.cookie in
    simp (append_assoc, same_cookie) at (rw c.in_ok-push_named.ensures at c.push_words_signed.ensures)
