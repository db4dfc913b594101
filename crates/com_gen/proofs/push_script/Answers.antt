use Rattle.std.proofs.lemmas.Result.{on_ok_weaker}
use Rattle.com_gen.proofs.Growing.{script_said}
use Rattle.com_gen.proofs.push_script.Goals as goal

pub returns-clause-text : goal.returns-clause-text
returns-clause-text c =
    on_ok_weaker c.push_all.result
    (λ e. script_said _ _ _ _ _ _ _ c.draw-word.ensures.word c.draw-word.ensures.behind c.in_ok-push_opening.ensures
    c.in_ok-push_rounds.ensures.text e)
    c.push_all.ensures.ok
