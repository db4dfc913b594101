use Rattle.std.proofs.Common.{◌++◌, ◌∙◌, ap}
use Rattle.com_gen.specs.Loads.{round_text}
use Rattle.com_gen.proofs.Growing.{no_rounds, behind_no_rounds, more_rounds, behind_more_rounds}
use Rattle.com_gen.proofs.push_rounds.Goals as goal

pub rounds-init : goal.rounds-init
rounds-init c = record { text = no_rounds _ _; behind = behind_no_rounds _ }

pub rounds-preserved : goal.rounds-preserved
rounds-preserved c = record {
  text = more_rounds _ _ _ _ _ c.rounds.invariant.behind
      (c.in_ok-push_round.ensures.text ∙ ap (λ t. t ++ round_text c.rounds.words) c.rounds.invariant.text);
  behind = behind_more_rounds _ _ _ _ c.rounds.invariant.behind c.push_round.ensures.behind;
}
