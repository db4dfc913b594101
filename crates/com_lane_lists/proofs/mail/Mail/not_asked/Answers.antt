use Rattle.std.proofs.Common.{ℕ, ◌∙◌, ap}
use Rattle.com_model.specs.Waiting.{not_asked, mark_of}
use Rattle.com_lane_lists.specs.Rooms.{MailRows}
use Rattle.com_lane_lists.proofs.Words.{ascend_rises}
use Rattle.com_lane_lists.proofs.mail.Mail.not_asked.Goals as goal

pub place_after-place-requires : goal.place_after-place-requires
place_after-place-requires c = ascend_rises _ _ _ c.self.invariant

pub returns : goal.returns
returns c =
    c.word_at.ensures ∙ c.place_after-place.ensures ∙ ap (λ (n : ℕ). not_asked n c.self.inside.words.items) c.of.ensures
    ∙ ap (λ (m : MailRows). not_asked (mark_of m.mail.marks c.args.call) m.mail.words) c.self.view_is
