use Rattle.std.proofs.Common.{◌≡◌, refl, List, [], ◌∷◌, drop}
use Rattle.com_model.specs.declared.keeps.Word.{Word}
use Rattle.com_model.specs.Lists.{without_first}
use Rattle.com_lane_lists.proofs.Words.{ascend_first}
use Rattle.com_lane_lists.proofs.mail.Mail.take.Goals as goal

one-less : (ws : List Word) → drop 1 ws ≡ without_first ws
one-less [] = refl
one-less (w ∷ ws) = refl

pub invariant_of-self : goal.invariant_of-self
invariant_of-self c = rw (c.pop_front.ensures.rest, one-less) (ascend_first _ _ _ c.self.invariant)
