use Rattle.std.proofs.Common.{◌++◌}
use Rattle.std.proofs.lemmas.Result.{on_ok_weaker}
use Rattle.com_draw_names.specs.Filters.{verdict_verb}
use Rattle.com_draw_stories.specs.Calls.{call_of_lane, type_reason}
use Rattle.com_draw_stories.specs.Phrases.{lane_does}
use Rattle.std.specs.Prelude.{codes}
use Rattle.com_draw_names.proofs.Joins.{join}
use Rattle.com_draw_stories.proofs.call_stories.push_verdict.Goals as goal

pub returns : goal.returns
returns c =
    on_ok_weaker c.push_reason.result
    (λ e. join c.args.out.now c.push_call_of_lane.new.out c.push_reason.new.out (((lane_does c.args.lane (codes "'s filter ")) ++ verdict_verb c.args.verdict) ++ call_of_lane c.args.call c.args.caller) (type_reason c.args.call_type) (join c.args.out.now c.push_verb.new.out c.push_call_of_lane.new.out ((lane_does c.args.lane (codes "'s filter ")) ++ verdict_verb c.args.verdict) (call_of_lane c.args.call c.args.caller) (join c.args.out.now c.push_does.new.out c.push_verb.new.out (lane_does c.args.lane (codes "'s filter ")) (verdict_verb c.args.verdict) c.in_ok-push_does.ensures c.in_ok-push_verb.ensures) c.in_ok-push_call_of_lane.ensures) e)
    c.push_reason.ensures
