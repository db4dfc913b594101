use Rattle.std.proofs.Common.{w64}
use Rattle.std.proofs.lemmas.Int.{to_z-of_z}
use Rattle.std.proofs.lemmas.Result.{on_ok_weaker}
use Rattle.com_draw_stories.specs.Phrases.{lane_signed}
use Rattle.std.specs.Prelude.{codes}
use Rattle.com_draw_names.proofs.Joins.{join}
use Rattle.com_draw_stories.proofs.call_stories.push_told.Goals as goal

pub returns : goal.returns
returns c =
    let same_to = to_z-of_z w64 c.args.to c.ranges.to in
    on_ok_weaker c.push_all.result
    (λ e. join c.args.out.now c.push_does_signed.new.out c.push_all.new.self (lane_signed c.args.lane (codes " tells L") c.args.to) (codes " to end its pump") (rw same_to at c.in_ok-push_does_signed.ensures) e)
    c.push_all.ensures.ok
