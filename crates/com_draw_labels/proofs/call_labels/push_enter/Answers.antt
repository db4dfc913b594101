use Rattle.std.proofs.Common.{◌++◌}
use Rattle.std.proofs.lemmas.Result.{on_ok_weaker}
use Rattle.com_draw_names.specs.Names.{called_words}
use Rattle.com_draw_names.specs.Values.{passed_text}
use Rattle.com_draw_words.specs.Escapes.{word_and_number}
use Rattle.std.specs.Prelude.{codes}
use Rattle.com_draw_names.proofs.Joins.{join}
use Rattle.com_draw_labels.proofs.call_labels.push_enter.Goals as goal

pub returns : goal.returns
returns c =
    on_ok_weaker c.push_passed.result
    (λ e. join c.args.out.now c.push_called.new.out c.push_passed.new.out (((word_and_number (codes "o") c.args.object) ++ codes ".") ++ called_words c.args.classes.now c.args.caller) (passed_text c.args.values.now) (join c.args.out.now c.push_all.new.self c.push_called.new.out ((word_and_number (codes "o") c.args.object) ++ codes ".") (called_words c.args.classes.now c.args.caller) (join c.args.out.now c.push_word_and_number.new.out c.push_all.new.self (word_and_number (codes "o") c.args.object) (codes ".") c.in_ok-push_word_and_number.ensures c.in_ok-push_all.ensures.ok) c.in_ok-push_called.ensures) e)
    c.push_passed.ensures
