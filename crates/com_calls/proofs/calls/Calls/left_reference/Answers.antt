use Rattle.std.proofs.Common.{◌∙◌, sym, ap, List, Option, None}
use Rattle.com_calls.specs.Rows.{RowView, row_at}
use Rattle.com_calls.specs.Kept.{Kept}
use Rattle.com_model.specs.Lists.{from_one, or_else}
use Rattle.com_model.specs.declared.keeps.Leaving.{Leaving}
use Rattle.com_model.specs.Frames.{value_reference}
use Rattle.com_model.specs.Places.{left_value}
use Rattle.com_calls.proofs.Leaves.{later_or, leaving_read}
use Rattle.com_calls.proofs.calls.Calls.left_reference.Goals as goal

pub returns-in-None : goal.returns-in-None
returns-in-None c =
    let s = c.self.inside in
    ap (λ (x : Option Leaving). value_reference (left_value x)) (ap (λ (r : Option RowView). later_or r (from_one s.later.items c.args.call None)) (c.in-None.ensures ∙ ap (λ (xs : List RowView). row_at xs c.args.call) c.deref-2.ensures.value)
    ∙ sym (leaving_read s.rows.items s.later.items c.args.call) ∙ ap (λ (b : Kept). from_one b.tables.leavings c.args.call None) c.self.view_is)

pub returns-in-Some : goal.returns-in-Some
returns-in-Some c =
    let s = c.self.inside in
    c.left_reference.ensures ∙ ap (λ (x : Option Leaving). value_reference (left_value x)) (ap (λ (y : Option Leaving). or_else y c.in-Some.row.now.leaving) (c.leaving-late.ensures ∙ ap (λ (ys : List (Option Leaving)). from_one ys c.args.call None) c.deref.ensures.value)
    ∙ ap (λ (r : Option RowView). later_or r (from_one s.later.items c.args.call None)) (c.in-Some.ensures ∙ ap (λ (xs : List RowView). row_at xs c.args.call) c.deref-2.ensures.value)
    ∙ sym (leaving_read s.rows.items s.later.items c.args.call) ∙ ap (λ (b : Kept). from_one b.tables.leavings c.args.call None) c.self.view_is)
