use Rattle.std.proofs.Common.{append_assoc}
use Rattle.com_draw_stories.proofs.phrases.push_does_named.Goals as goal

pub returns : goal.returns
returns c = simp append_assoc (simp append_assoc at (rw c.in_ok-push_does.ensures at c.push_named.ensures))
