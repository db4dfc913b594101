use Rattle.std.proofs.Common.{◌++◌}
use Rattle.std.proofs.lemmas.Result.{on_ok_weaker}
use Rattle.com_draw_words.specs.Escapes.{link_text, word_and_number}
use Rattle.std.specs.Prelude.{codes}
use Rattle.com_draw_names.proofs.Joins.{join}
use Rattle.com_draw_stories.proofs.call_stories.push_call_of_lane.Goals as goal

pub returns : goal.returns
returns c =
    on_ok_weaker c.push_word_and_number.result
    (λ e. join c.args.out.now c.push_link.new.out c.push_word_and_number.new.out ((codes " ") ++ link_text c.args.call) (word_and_number (codes " of L") c.args.caller) (join c.args.out.now c.push_all.new.self c.push_link.new.out (codes " ") (link_text c.args.call) c.in_ok-push_all.ensures.ok c.in_ok-push_link.ensures) e)
    c.push_word_and_number.ensures
