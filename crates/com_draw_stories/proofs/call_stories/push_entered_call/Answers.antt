use Rattle.std.proofs.Common.{append_assoc}
use Rattle.com_draw_stories.proofs.call_stories.push_entered_call.Goals as goal

pub returns : goal.returns
returns c =
    simp append_assoc (simp append_assoc at (rw (c.in_ok-push_all-2.ensures.ok, c.in_ok-push_link.ensures, c.in_ok-push_all.ensures.ok, c.in_ok-push_for_lane.ensures) at c.push_type.ensures))
