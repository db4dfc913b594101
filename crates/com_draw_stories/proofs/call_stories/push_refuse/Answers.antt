use Rattle.std.proofs.Common.{◌++◌}
use Rattle.std.proofs.lemmas.Result.{on_ok_weaker}
use Rattle.com_draw_names.specs.Failures.{failure_text}
use Rattle.com_draw_stories.specs.Calls.{call_of_lane}
use Rattle.com_draw_stories.specs.Phrases.{lane_does}
use Rattle.std.specs.Prelude.{codes}
use Rattle.com_draw_names.proofs.Joins.{join}
use Rattle.com_draw_stories.proofs.call_stories.push_refuse.Goals as goal

pub returns : goal.returns
returns c =
    on_ok_weaker c.push_failure.result
    (λ e. join c.args.out.now c.push_call_of_lane.new.out c.push_failure.new.out ((lane_does c.args.speaker.lane (codes " cannot take in")) ++ call_of_lane c.args.call c.args.caller) (failure_text c.args.speaker.version c.args.hr) (join c.args.out.now c.push_does.new.out c.push_call_of_lane.new.out (lane_does c.args.speaker.lane (codes " cannot take in")) (call_of_lane c.args.call c.args.caller) c.in_ok-push_does.ensures c.in_ok-push_call_of_lane.ensures) e)
    c.push_failure.ensures
