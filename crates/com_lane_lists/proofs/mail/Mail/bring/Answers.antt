use Rattle.com_lane_lists.proofs.Words.{ascend_append}
use Rattle.com_lane_lists.proofs.mail.Mail.bring.Goals as goal

pub invariant_of-self : goal.invariant_of-self
invariant_of-self c = rw c.push_back_reserved.ensures.items (ascend_append _ _ _ _ c.self.invariant)
