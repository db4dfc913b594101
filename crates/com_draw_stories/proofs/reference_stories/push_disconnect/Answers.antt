use Rattle.com_draw_stories.proofs.Failing.{told_failure}
use Rattle.com_draw_stories.proofs.reference_stories.push_disconnect.Goals as goal

pub returns-then-is_failure : goal.returns-then-is_failure
returns-then-is_failure c = let t = told_failure c.args.hr _ c.is_failure.ensures c.if-is_failure.true in rw t c.push_object_fails.ensures
