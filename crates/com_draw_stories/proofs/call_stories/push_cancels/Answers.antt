use Rattle.std.proofs.Common.{w64}
use Rattle.std.proofs.lemmas.Int.{to_z-of_z}
use Rattle.std.proofs.lemmas.Result.{on_ok_weaker}
use Rattle.com_draw_stories.specs.Phrases.{lane_link}
use Rattle.std.specs.Fmt.{signed_decimal}
use Rattle.std.specs.Prelude.{codes}
use Rattle.com_draw_names.proofs.Joins.{join}
use Rattle.com_draw_stories.proofs.call_stories.push_cancels.Goals as goal

pub returns : goal.returns
returns c =
    let same_word = to_z-of_z w64 c.args.word c.ranges.word in
    on_ok_weaker c.push_signed.result
    (λ e. join c.args.out.now c.push_does_link.new.out c.push_signed.new.out (lane_link c.args.lane (codes "'s filter cancels ") c.args.call (codes " for word ")) (signed_decimal c.args.word) c.in_ok-push_does_link.ensures e)
    (rw same_word at c.push_signed.ensures)
