use Rattle.std.proofs.Common.{◌++◌}
use Rattle.std.proofs.lemmas.Result.{on_ok_weaker}
use Rattle.com_draw_names.specs.Names.{object_text, shown_method}
use Rattle.com_draw_stories.specs.Calls.{route_words}
use Rattle.com_draw_stories.specs.Phrases.{lane_does}
use Rattle.com_draw_words.specs.Escapes.{word_and_number}
use Rattle.std.specs.Prelude.{codes}
use Rattle.com_draw_names.proofs.Joins.{join}
use Rattle.com_draw_stories.proofs.call_stories.push_out.Goals as goal

pub returns : goal.returns
returns c =
    on_ok_weaker c.push_route.result
    (λ e. join c.args.out.now c.push_word_and_number.new.out c.push_route.new.out (((((lane_does c.args.caller.lane (codes " calls ")) ++ shown_method c.args.classes.now c.args.caller.iface c.args.caller.method) ++ codes " of ") ++ object_text c.args.object) ++ word_and_number (codes " (c") c.args.call) (route_words c.args.route) (join c.args.out.now c.push_object.new.out c.push_word_and_number.new.out ((((lane_does c.args.caller.lane (codes " calls ")) ++ shown_method c.args.classes.now c.args.caller.iface c.args.caller.method) ++ codes " of ") ++ object_text c.args.object) (word_and_number (codes " (c") c.args.call) (join c.args.out.now c.push_all.new.self c.push_object.new.out (((lane_does c.args.caller.lane (codes " calls ")) ++ shown_method c.args.classes.now c.args.caller.iface c.args.caller.method) ++ codes " of ") (object_text c.args.object) (join c.args.out.now c.push_shown_method.new.out c.push_all.new.self ((lane_does c.args.caller.lane (codes " calls ")) ++ shown_method c.args.classes.now c.args.caller.iface c.args.caller.method) (codes " of ") (join c.args.out.now c.push_does.new.out c.push_shown_method.new.out (lane_does c.args.caller.lane (codes " calls ")) (shown_method c.args.classes.now c.args.caller.iface c.args.caller.method) c.in_ok-push_does.ensures c.in_ok-push_shown_method.ensures) c.in_ok-push_all.ensures.ok) c.in_ok-push_object.ensures) c.in_ok-push_word_and_number.ensures) e)
    c.push_route.ensures
