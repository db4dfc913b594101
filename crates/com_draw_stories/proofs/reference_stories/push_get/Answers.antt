use Rattle.std.proofs.Common.{w64}
use Rattle.std.proofs.lemmas.Int.{to_z-of_z}
use Rattle.com_draw_stories.proofs.Failing.{told_failure}
use Rattle.com_draw_stories.proofs.reference_stories.push_get.Goals as goal

pub returns-then-is_failure : goal.returns-then-is_failure
returns-then-is_failure c =
    let same = to_z-of_z w64 c.args.cookie c.ranges.cookie in
    let t = told_failure c.args.hr _ c.is_failure.ensures c.if-is_failure.true in rw t (rw same at c.push_signed_fails.ensures)
