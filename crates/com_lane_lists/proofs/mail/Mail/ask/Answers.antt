use Rattle.std.proofs.Common.{ℕ, List, ◌∙◌, ap, ap₂, sym}
use Rattle.com_model.specs.declared.keeps.Word.{Word}
use Rattle.com_model.specs.declared.keeps.Mark.{Mark}
use Rattle.com_model.specs.Waiting.{not_asked}
use Rattle.com_lane_lists.specs.Rooms.{MailRows}
use Rattle.com_lane_lists.proofs.Words.{seen, ascend_rises, asked_taken, ascend_removed}
use Rattle.com_lane_lists.proofs.mail.Mail.ask.Goals as goal

pub place_after-place-requires : goal.place_after-place-requires
place_after-place-requires c = ascend_rises _ _ _ c.self.invariant

pub invariant_of-self : goal.invariant_of-self
invariant_of-self c = rw c.take_out.ensures (ascend_removed _ _ _ _ c.self.invariant (sym c.in-Some.ensures))

pub returns-then-answer-eq-WAIT_DEFAULT :
    goal.returns-then-answer-eq-WAIT_DEFAULT
returns-then-answer-eq-WAIT_DEFAULT c =
    ap₂ (λ (ws : List Word) (ms : List Mark). seen c.self.inside.posted ws ms) c.take_out.ensures c.set.ensures
    ∙ asked_taken _ _ _ _ _ _ _ _ (ap (λ (m : MailRows). m.mail) c.self.view_is) c.self.invariant (c.place_after-place.ensures ∙ ap (λ (n : ℕ). not_asked n c.self.inside.words.items) c.of.ensures) (sym c.in-Some.ensures) c.if-answer-eq-WAIT_DEFAULT.true
