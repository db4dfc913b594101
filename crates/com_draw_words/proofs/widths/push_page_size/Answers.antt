use Rattle.std.proofs.Common.{append_assoc}
use Rattle.com_draw_words.proofs.widths.push_page_size.Goals as goal

pub returns : goal.returns
returns c = simp append_assoc at (rw c.in_ok-push_word_and_number.ensures at c.push_all.ensures.ok)
