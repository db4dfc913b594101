use Rattle.std.proofs.Common.{◌≡◌, ◌==◌, false, true, arith, w64}
use Rattle.std.proofs.lemmas.Int.{to_z-of_z}
use Rattle.com_draw_labels.proofs.call_labels.push_pending.Goals as goal

pub returns-then-answer-eq1 : goal.returns-then-answer-eq1
returns-then-answer-eq1 c =
    let same = to_z-of_z w64 c.args.word c.ranges.word in
    let zero : (c.args.answer == 0) ≡ false = grind arith in
    let one : (c.args.answer == 1) ≡ true = grind arith in
    rw (zero, one) (rw same at c.push_words_signed.ensures)

pub returns : goal.returns
returns c =
    let same = to_z-of_z w64 c.args.word c.ranges.word in
    let zero : (c.args.answer == 0) ≡ false = grind arith in
    let one : (c.args.answer == 1) ≡ false = grind arith in
    rw (zero, one) (rw same at c.push_words_signed-2.ensures)
