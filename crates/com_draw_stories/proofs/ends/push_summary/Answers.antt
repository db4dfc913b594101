use Rattle.std.proofs.Common.{append_assoc}
use Rattle.com_draw_stories.proofs.ends.push_summary.Goals as goal

pub returns : goal.returns
returns c =
    simp append_assoc (simp append_assoc at (rw (c.in_ok-push_number-2.ensures, c.in_ok-push_all.ensures.ok, c.in_ok-push_number.ensures, c.in_ok-push_summary_front.ensures) at c.push_ended.ensures))
