use Rattle.com_draw_stories.proofs.Failing.{told_success}
use Rattle.com_draw_stories.proofs.reference_stories.push_drop.Goals as goal

pub returns : goal.returns
returns c = let t = told_success c.args.hr _ c.is_failure.ensures c.if-is_failure.false in rw t c.push_does_named.ensures
