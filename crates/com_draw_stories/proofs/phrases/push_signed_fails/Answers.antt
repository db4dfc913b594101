use Rattle.std.proofs.Common.{w64}
use Rattle.std.proofs.lemmas.Int.{to_z-of_z}
use Rattle.std.proofs.lemmas.Result.{on_ok_weaker}
use Rattle.com_draw_names.specs.Failures.{failure_text}
use Rattle.com_draw_stories.specs.Phrases.{lane_signed}
use Rattle.com_draw_names.proofs.Joins.{join}
use Rattle.com_draw_stories.proofs.phrases.push_signed_fails.Goals as goal

pub returns : goal.returns
returns c =
    let same_number = to_z-of_z w64 c.args.number c.ranges.number in
    on_ok_weaker c.push_failure.result
    (λ e. join c.args.out.now c.push_does_signed.new.out c.push_failure.new.out (lane_signed c.args.speaker.lane c.args.words.now c.args.number) (failure_text c.args.speaker.version c.args.hr) (rw same_number at c.in_ok-push_does_signed.ensures) e)
    c.push_failure.ensures
