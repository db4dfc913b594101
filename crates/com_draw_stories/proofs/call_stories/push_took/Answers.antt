use Rattle.std.proofs.Common.{w64}
use Rattle.std.proofs.lemmas.Int.{to_z-of_z}
use Rattle.com_draw_stories.specs.Calls.{took_story}
use Rattle.com_draw_stories.proofs.call_stories.push_took.Goals as goal

pub returns : goal.returns
unfolding took_story
returns c = let same = to_z-of_z w64 c.args.word c.ranges.word in rw same at c.push_does_signed.ensures
