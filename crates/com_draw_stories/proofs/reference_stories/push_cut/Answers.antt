use Rattle.std.proofs.Common.{append_assoc}
use Rattle.com_draw_stories.proofs.reference_stories.push_cut.Goals as goal

pub returns : goal.returns
returns c = simp append_assoc (simp append_assoc at (rw c.in_ok-push_does_named.ensures at c.push_all.ensures.ok))
