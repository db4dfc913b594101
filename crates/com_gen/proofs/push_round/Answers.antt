use Rattle.std.proofs.lemmas.Result.{on_ok_weaker}
use Rattle.com_gen.proofs.Growing.{round_said}
use Rattle.com_gen.proofs.push_round.Goals as goal

pub returns-clause-text : goal.returns-clause-text
returns-clause-text c =
    on_ok_weaker c.push_all-3.result
    (λ e. round_said _ _ _ _ _ _ _ _ _ _ c.draw-class.ensures.word c.draw-class.ensures.behind c.draw-argument.ensures.word
    c.in_ok-push_all.ensures.ok c.in_ok-push_number.ensures c.in_ok-push_all-2.ensures.ok c.in_ok-push_number-2.ensures e)
    c.push_all-3.ensures.ok
