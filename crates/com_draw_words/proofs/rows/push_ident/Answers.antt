use Rattle.std.proofs.Common.{append_assoc}
use Rattle.com_draw_words.proofs.rows.push_ident.Goals as goal

pub returns : goal.returns
returns c = simp append_assoc (simp append_assoc at (rw (c.in_ok-push_number-2.ensures, c.in_ok-push_all-2.ensures.ok, c.in_ok-push_number.ensures, c.in_ok-push_all.ensures.ok) at c.push_all-3.ensures.ok))
