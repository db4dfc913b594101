use Rattle.std.proofs.Common.{◌++◌}
use Rattle.std.proofs.lemmas.Result.{on_ok_weaker}
use Rattle.com_draw_stories.specs.Calls.{outcome, unwaited}
use Rattle.com_draw_stories.specs.Phrases.{lane_does}
use Rattle.com_draw_words.specs.Escapes.{link_text}
use Rattle.std.specs.Prelude.{codes}
use Rattle.com_draw_names.proofs.Joins.{join}
use Rattle.com_draw_stories.proofs.call_stories.push_leave.Goals as goal

pub returns : goal.returns
returns c =
    on_ok_weaker c.push_unwaited.result
    (λ e. join c.args.out.now c.push_outcome.new.out c.push_unwaited.new.out (((lane_does c.args.speaker.lane (codes " answers ")) ++ link_text c.args.called.call) ++ outcome c.args.speaker.version c.args.hr c.args.value.now) (unwaited c.args.called.caller) (join c.args.out.now c.push_link.new.out c.push_outcome.new.out ((lane_does c.args.speaker.lane (codes " answers ")) ++ link_text c.args.called.call) (outcome c.args.speaker.version c.args.hr c.args.value.now) (join c.args.out.now c.push_does.new.out c.push_link.new.out (lane_does c.args.speaker.lane (codes " answers ")) (link_text c.args.called.call) c.in_ok-push_does.ensures c.in_ok-push_link.ensures) c.in_ok-push_outcome.ensures) e)
    c.push_unwaited.ensures
