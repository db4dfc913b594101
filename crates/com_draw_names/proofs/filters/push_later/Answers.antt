use Rattle.std.proofs.Common.{append_assoc, w64}
use Rattle.std.proofs.lemmas.Int.{to_z-of_z}
use Rattle.com_draw_names.proofs.filters.push_later.Goals as goal

pub returns : goal.returns
returns c =
    let same_answer = to_z-of_z w64 c.args.answer c.ranges.answer in
    simp (append_assoc, same_answer) at (rw (c.in_ok-push_signed.ensures, c.in_ok-push_all.ensures.ok) at c.push_all-2.ensures.ok)
