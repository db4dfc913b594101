use Rattle.std.proofs.Common.{◌++◌, w64}
use Rattle.std.proofs.lemmas.Int.{to_z-of_z}
use Rattle.std.proofs.lemmas.Result.{on_ok_weaker}
use Rattle.com_draw_stories.specs.Phrases.{lane_signed}
use Rattle.std.specs.Fmt.{signed_decimal}
use Rattle.std.specs.Prelude.{codes}
use Rattle.com_draw_names.proofs.Joins.{join}
use Rattle.com_draw_stories.proofs.call_stories.push_sent.Goals as goal

pub returns : goal.returns
returns c =
    let same_word = to_z-of_z w64 c.args.word c.ranges.word in
    let same_to = to_z-of_z w64 c.args.to c.ranges.to in
    on_ok_weaker c.push_signed.result
    (λ e. join c.args.out.now c.push_all.new.self c.push_signed.new.out ((lane_signed c.args.lane (codes " sends word ") c.args.word) ++ codes " to L") (signed_decimal c.args.to) (join c.args.out.now c.push_does_signed.new.out c.push_all.new.self (lane_signed c.args.lane (codes " sends word ") c.args.word) (codes " to L") (rw same_word at c.in_ok-push_does_signed.ensures) c.in_ok-push_all.ensures.ok) e)
    (rw same_to at c.push_signed.ensures)
