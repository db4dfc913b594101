use Rattle.std.proofs.Common.{append_assoc}
use Rattle.com_draw_words.proofs.texts.push_link.Goals as goal

pub returns : goal.returns
returns c = simp append_assoc (simp append_assoc at (rw (c.in_ok-push_word_and_number-2.ensures, c.in_ok-push_word_and_number.ensures) at c.push_all.ensures.ok))
