use Rattle.std.proofs.Common.{◌∙◌, sym, ap, List, [], Option}
use Rattle.std.proofs.lemmas.Result.{IfOk-weaker}
use Rattle.com_calls.specs.Rows.{RowView, row_at}
use Rattle.com_calls.specs.Kept.{Kept}
use Rattle.com_model.specs.Lists.{from_one}
use Rattle.com_calls.proofs.RowReads.{read_or, read}
use Rattle.com_calls.proofs.calls.Calls.read_values.Goals as goal

pub returns-in-None : goal.returns-in-None
returns-in-None c =
    let s = c.self.inside in
    c.new.ensures ∙ (ap (λ (r : Option RowView). read_or (λ (r : RowView). r.unread) [] r) (c.in-None.ensures ∙ ap (λ (xs : List RowView). row_at xs c.args.call) c.deref.ensures.value)
    ∙ sym (read (λ (r : RowView). r.unread) s.rows.items c.args.call []) ∙ ap (λ (b : Kept). from_one b.tables.unread c.args.call []) c.self.view_is)

pub returns-in-Some : goal.returns-in-Some
returns-in-Some c =
    let s = c.self.inside in
    IfOk-weaker c.read_values.result _ _
    (λ values is. is ∙ (ap (λ (r : Option RowView). read_or (λ (r : RowView). r.unread) [] r) (c.in-Some.ensures ∙ ap (λ (xs : List RowView). row_at xs c.args.call) c.deref.ensures.value)
    ∙ sym (read (λ (r : RowView). r.unread) s.rows.items c.args.call []) ∙ ap (λ (b : Kept). from_one b.tables.unread c.args.call []) c.self.view_is))
    c.read_values.ensures
