use Rattle.std.proofs.Common.{◌∙◌, sym, ap, List, Option, None, is_some}
use Rattle.com_calls.specs.Rows.{RowView, row_at}
use Rattle.com_calls.specs.Kept.{Kept}
use Rattle.com_model.specs.declared.keeps.Ending.{Ending}
use Rattle.com_model.specs.Lists.{from_one}
use Rattle.com_calls.proofs.RowReads.{read_or, read}
use Rattle.com_calls.proofs.calls.Calls.is_answered.Goals as goal

pub returns-in-None : goal.returns-in-None
returns-in-None c =
    let s = c.self.inside in
    ap (λ (x : Option Ending). is_some x) (ap (λ (r : Option RowView). read_or (λ (r : RowView). r.ending) None r) (c.in-None.ensures ∙ ap (λ (xs : List RowView). row_at xs c.args.call) c.deref.ensures.value)
    ∙ sym (read (λ (r : RowView). r.ending) s.rows.items c.args.call None) ∙ ap (λ (b : Kept). from_one b.tables.endings c.args.call None) c.self.view_is)

pub returns-in-Some : goal.returns-in-Some
returns-in-Some c =
    let s = c.self.inside in
    c.is_answered.ensures ∙ ap (λ (x : Option Ending). is_some x) (ap (λ (r : Option RowView). read_or (λ (r : RowView). r.ending) None r) (c.in-Some.ensures ∙ ap (λ (xs : List RowView). row_at xs c.args.call) c.deref.ensures.value)
    ∙ sym (read (λ (r : RowView). r.ending) s.rows.items c.args.call None) ∙ ap (λ (b : Kept). from_one b.tables.endings c.args.call None) c.self.view_is)
