use Rattle.std.proofs.lemmas.Result.{on_ok_weaker}
use Rattle.com_draw_stories.specs.Calls.{entered_call, entered_method}
use Rattle.com_draw_names.proofs.Joins.{join}
use Rattle.com_draw_stories.proofs.call_stories.push_enter.Goals as goal

pub returns : goal.returns
returns c =
    on_ok_weaker c.push_entered_call.result
    (λ e. join c.args.out.now c.push_entered_method.new.out c.push_entered_call.new.out (entered_method c.args.classes.now c.args.lane c.args.called.caller c.args.entered) (entered_call c.args.lane c.args.called c.args.entered.call_type) c.in_ok-push_entered_method.ensures e)
    c.push_entered_call.ensures
