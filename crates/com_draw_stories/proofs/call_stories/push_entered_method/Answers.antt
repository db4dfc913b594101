use Rattle.std.proofs.Common.{◌++◌}
use Rattle.std.proofs.lemmas.Result.{on_ok_weaker}
use Rattle.com_draw_names.specs.Names.{place_text, shown_called}
use Rattle.com_draw_stories.specs.Phrases.{lane_does}
use Rattle.com_draw_words.specs.Escapes.{word_and_number}
use Rattle.std.specs.Prelude.{codes}
use Rattle.com_draw_names.proofs.Joins.{join}
use Rattle.com_draw_stories.proofs.call_stories.push_entered_method.Goals as goal

pub returns : goal.returns
returns c =
    on_ok_weaker c.push_place.result
    (λ e. join c.args.out.now c.push_all.new.self c.push_place.new.out ((((lane_does c.args.lane (codes " runs ")) ++ shown_called c.args.classes.now c.args.caller) ++ word_and_number (codes " of o") c.args.entered.object) ++ codes " in ") (place_text c.args.entered.apartment) (join c.args.out.now c.push_word_and_number.new.out c.push_all.new.self (((lane_does c.args.lane (codes " runs ")) ++ shown_called c.args.classes.now c.args.caller) ++ word_and_number (codes " of o") c.args.entered.object) (codes " in ") (join c.args.out.now c.push_shown_called.new.out c.push_word_and_number.new.out ((lane_does c.args.lane (codes " runs ")) ++ shown_called c.args.classes.now c.args.caller) (word_and_number (codes " of o") c.args.entered.object) (join c.args.out.now c.push_does.new.out c.push_shown_called.new.out (lane_does c.args.lane (codes " runs ")) (shown_called c.args.classes.now c.args.caller) c.in_ok-push_does.ensures c.in_ok-push_shown_called.ensures) c.in_ok-push_word_and_number.ensures) c.in_ok-push_all.ensures.ok) e)
    c.push_place.ensures
