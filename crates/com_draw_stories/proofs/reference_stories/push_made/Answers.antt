use Rattle.std.proofs.Common.{append_assoc}
use Rattle.com_draw_stories.proofs.reference_stories.push_made.Goals as goal

pub returns : goal.returns
returns c =
    simp append_assoc (simp append_assoc at (rw (c.in_ok-push_all-2.ensures.ok, c.in_ok-push_shown_class.ensures, c.in_ok-push_all.ensures.ok, c.in_ok-push_does_named.ensures) at c.push_place_at.ensures))
