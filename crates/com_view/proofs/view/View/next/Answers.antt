use Rattle.std.proofs.Common.{sym, ap, ◌∙◌, slice_index_or, false}
use Rattle.com_view.specs.Seen.{Seen}
use Rattle.com_view.proofs.Firsts.{kind_own, kind_over, kind_wait}
use Rattle.com_view.proofs.view.View.next.Goals as goal

pub returns-then-has_entry : goal.returns-then-has_entry
returns-then-has_entry c = λ b.
    kind_own _ _ _ (sym c.is_in_body.ensures ∙ c.if-is_in_body.false) (sym (c.has_entry.ensures b) ∙ c.if-has_entry.true)

pub returns-then-is_over : goal.returns-then-is_over
returns-then-is_over c = λ b.
    kind_over _ _ _ (sym c.is_in_body.ensures ∙ c.if-is_in_body.false) (sym (c.has_entry.ensures b) ∙ c.if-has_entry.false)
    (sym (c.is_over.ensures ∙ ap (λ (w : Seen). slice_index_or w.lanes.over c.args.lane false) c.self.view_is) ∙ c.if-is_over.true)

pub returns-else-is_over : goal.returns-else-is_over
returns-else-is_over c = λ b.
    kind_wait _ _ _ (sym c.is_in_body.ensures ∙ c.if-is_in_body.false) (sym (c.has_entry.ensures b) ∙ c.if-has_entry.false)
    (sym (c.is_over.ensures ∙ ap (λ (w : Seen). slice_index_or w.lanes.over c.args.lane false) c.self.view_is) ∙ c.if-is_over.false)
