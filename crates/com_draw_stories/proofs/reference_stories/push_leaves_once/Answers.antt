use Rattle.std.proofs.Common.{append_assoc}
use Rattle.com_draw_stories.proofs.reference_stories.push_leaves_once.Goals as goal

pub returns : goal.returns
returns c =
    simp append_assoc (simp append_assoc at (rw (c.in_ok-push_number.ensures, c.in_ok-push_does_place.ensures) at c.push_all.ensures.ok))
