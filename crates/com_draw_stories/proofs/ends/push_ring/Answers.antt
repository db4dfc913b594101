use Rattle.std.proofs.Common.{append_assoc}
use Rattle.com_draw_stories.proofs.ends.push_ring.Goals as goal

pub returns : goal.returns
returns c =
    simp append_assoc at (rw (c.in_ok-push_ring_lanes.ensures, c.in_ok-push_all.ensures.ok) at c.push_all-2.ensures.ok)
